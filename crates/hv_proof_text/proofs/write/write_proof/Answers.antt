use Rattle.std.proofs.Common.{◌∙◌, ap, arith, take}
use Rattle.hv_proof_text.proofs.Fronts.{kept_front, kept_length}
use Rattle.hv_proof_text.proofs.write.write_proof.Goals as goal

pub truncate-requires : goal.truncate-requires
truncate-requires c =
    omega (
      arith,
      c.len-before.ensures,
      kept_length c.args.out.now c.push_lines.new.out c.push_lines.ensures.keeps,
    )

pub returns-in-Err-clause-err : goal.returns-in-Err-clause-err
returns-in-Err-clause-err c =
    c.truncate.ensures
    ∙ ap (λ n. take n c.push_lines.new.out) c.len-before.ensures
    ∙ kept_front c.args.out.now c.push_lines.new.out c.push_lines.ensures.keeps
