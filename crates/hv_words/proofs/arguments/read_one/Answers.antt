use Rattle.std.proofs.Common.{◌∙◌, List, map, codes, ap, sym}
use Rattle.std.specs.String.{string_bytes}
use Rattle.clap.specs.Words.{Text, takes}
use Rattle.hv_words.proofs.Taken.{one_list, one_simple, value_in}
use Rattle.hv_words.proofs.arguments.read_one.Goals as goal

pub parse-requires : goal.parse-requires
parse-requires c =
    let words : List Text = map string_bytes c.args.words.now in
    let taken = one_list c.args.name.now words (sym c.is_one.ensures ∙ c.if-not-is_one.false) in
    ap (λ a. takes a words) c.in_ok-one_command.ensures ∙ taken.0

pub returns : goal.returns
returns c =
    let name = c.args.name.now in
    let words : List Text = map string_bytes c.args.words.now in
    let taken = one_list name words (sym c.is_one.ensures ∙ c.if-not-is_one.false) in
    value_in _ _ words c.in_ok-matches.matches (codes "first") c.get_str.result _
    c.in_ok-one_command.ensures (one_simple name)
    c.in_ok-matches.ensures c.get_str.ensures taken.1
