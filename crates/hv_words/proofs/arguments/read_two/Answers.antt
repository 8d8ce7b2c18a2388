use Rattle.std.proofs.Common.{◌∙◌, List, Some, map, codes, ap, ap₂, sym}
use Rattle.std.specs.String.{string_bytes}
use Rattle.clap.specs.Words.{Text, takes}
use Rattle.hv_words.proofs.Taken.{text_of, there, two_list, two_simple, value_in}
use Rattle.hv_words.proofs.arguments.read_two.Goals as goal

pub parse-requires : goal.parse-requires
parse-requires c =
    let words : List Text = map string_bytes c.args.words.now in
    let taken = two_list c.args.name.now words (sym c.is_two.ensures ∙ c.if-not-is_two.false) in
    ap (λ a. takes a words) c.in_ok-two_command.ensures ∙ taken.0

pub unwrap-requires : goal.unwrap-requires
unwrap-requires c =
    let name = c.args.name.now in
    let words : List Text = map string_bytes c.args.words.now in
    let taken = two_list name words (sym c.is_two.ensures ∙ c.if-not-is_two.false) in
    there c.get_str.result taken.1.0
    (value_in _ _ words c.in_ok-matches.matches (codes "first") c.get_str.result _
    c.in_ok-two_command.ensures (two_simple name)
    c.in_ok-matches.ensures c.get_str.ensures taken.3)

pub unwrap-requires-2 : goal.unwrap-requires-2
unwrap-requires-2 c =
    let name = c.args.name.now in
    let words : List Text = map string_bytes c.args.words.now in
    let taken = two_list name words (sym c.is_two.ensures ∙ c.if-not-is_two.false) in
    there c.get_str-2.result taken.1.1
    (value_in _ _ words c.in_ok-matches.matches (codes "second") c.get_str-2.result _
    c.in_ok-two_command.ensures (two_simple name)
    c.in_ok-matches.ensures c.get_str-2.ensures taken.4)

pub returns : goal.returns
returns c =
    let name = c.args.name.now in
    let words : List Text = map string_bytes c.args.words.now in
    let taken = two_list name words (sym c.is_two.ensures ∙ c.if-not-is_two.false) in
    let first = value_in _ _ words c.in_ok-matches.matches (codes "first") c.get_str.result _
    c.in_ok-two_command.ensures (two_simple name)
    c.in_ok-matches.ensures c.get_str.ensures taken.3 in
    let second = value_in _ _ words c.in_ok-matches.matches (codes "second") c.get_str-2.result _
    c.in_ok-two_command.ensures (two_simple name)
    c.in_ok-matches.ensures c.get_str-2.ensures taken.4 in
    ap₂ (λ a b. Some (a, b)) (text_of c.get_str.result c.unwrap.result taken.1.0 c.unwrap.ensures
    first)
    (text_of c.get_str-2.result c.unwrap-2.result taken.1.1 c.unwrap-2.ensures second)
    ∙ sym taken.2
