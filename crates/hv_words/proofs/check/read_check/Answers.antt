use Rattle.std.proofs.Common.{◌∙◌, List, map, codes, ap, sym}
use Rattle.std.specs.String.{string_bytes}
use Rattle.clap.specs.Words.{Text, takes}
use Rattle.hv_words.proofs.Taken.{check_list, check_simple, made, text_of, there, value_in}
use Rattle.hv_words.proofs.check.read_check.Goals as goal

pub parse-requires : goal.parse-requires
parse-requires c =
    let words : List Text = map string_bytes c.args.words.now in
    let taken = check_list c.args.name.now words
    (sym c.is_check.ensures ∙ c.if-not-is_check.false) in
    ap (λ a. takes a words) c.in_ok-check_command.ensures ∙ taken.0

pub unwrap-requires : goal.unwrap-requires
unwrap-requires c =
    let name = c.args.name.now in
    let words : List Text = map string_bytes c.args.words.now in
    let taken = check_list name words (sym c.is_check.ensures ∙ c.if-not-is_check.false) in
    there c.get_str.result taken.1.task
    (value_in _ _ words c.in_ok-matches.matches (codes "task") c.get_str.result _
    c.in_ok-check_command.ensures (check_simple name)
    c.in_ok-matches.ensures c.get_str.ensures taken.3.task)

pub unwrap-requires-2 : goal.unwrap-requires-2
unwrap-requires-2 c =
    let name = c.args.name.now in
    let words : List Text = map string_bytes c.args.words.now in
    let taken = check_list name words (sym c.is_check.ensures ∙ c.if-not-is_check.false) in
    there c.get_str-2.result taken.1.proof
    (value_in _ _ words c.in_ok-matches.matches (codes "proof") c.get_str-2.result _
    c.in_ok-check_command.ensures (check_simple name)
    c.in_ok-matches.ensures c.get_str-2.ensures taken.3.proof)

pub returns : goal.returns
returns c =
    let name = c.args.name.now in
    let words : List Text = map string_bytes c.args.words.now in
    let taken = check_list name words (sym c.is_check.ensures ∙ c.if-not-is_check.false) in
    let simple = check_simple name in
    let is = c.in_ok-check_command.ensures in
    let has = c.in_ok-matches.ensures in
    let m = c.in_ok-matches.matches in
    let task = text_of c.get_str.result c.unwrap.result taken.1.task c.unwrap.ensures
    (value_in _ _ words m (codes "task") c.get_str.result _ is simple has c.get_str.ensures
    taken.3.task) in
    let proof = text_of c.get_str-2.result c.unwrap-2.result taken.1.proof c.unwrap-2.ensures
    (value_in _ _ words m (codes "proof") c.get_str-2.result _ is simple has c.get_str-2.ensures
    taken.3.proof) in
    let nodes = value_in _ _ words m (codes "nodes") c.get_str-3.result _ is simple has
    c.get_str-3.ensures taken.3.nodes in
    let budget = value_in _ _ words m (codes "budget") c.get_str-4.result _ is simple has
    c.get_str-4.ensures taken.3.budget in
    made c.unwrap.result.now c.unwrap-2.result.now _ _ taken.1 task proof nodes budget ∙ sym taken.2
