use Rattle.std.proofs.Common.{◌≡◌, length, position, unwrap_or}
use Rattle.std.specs.Str.{bytes_eq}
use Rattle.hv_bytes.proofs.FilePlaces.{place-le, place_holds, bytes_at-place}
use Rattle.hv_bytes.proofs.sure.place_of.Goals as goal

pub returns : goal.returns
returns c =
    let files = c.args.entries.now in
    let name = c.args.name.now in
    let place = c.unwrap_or.result in
    let at : place ≡ unwrap_or (position (λ file. bytes_eq file.name name) files) (length files) =
    cc in
    record {
      within = place-le files name place at;
      held = place_holds files name place at;
      bytes = bytes_at-place files name place at;
    }
