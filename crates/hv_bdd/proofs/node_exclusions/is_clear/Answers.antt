use Rattle.std.proofs.Common.{◌≡◌, ◌<◌, ◌+◌, ◌*◌, ◌%◌, ◌∙◌, Bool, true, false, not, ap, cond, get_or}
use Rattle.std.proofs.Common.{length, refl, sym, arith}
use Rattle.std.proofs.lemmas.List.{get_or_default}
use Rattle.std.specs.Int.{bit_at}
use Rattle.hv_bdd.specs.Exclusions.{bit_of}
use Rattle.hv_bdd.proofs.node_exclusions.is_clear.Goals as goal
use mir.Val.{bool_byte}

not_both : (b : Bool) → not b ≡ true → b ≡ true → ⊥
not_both true e f = let g : false ≡ true = e in absurd cc
not_both false e f = let g : false ≡ true = f in absurd cc

sign : (b : Bool) → bool_byte b ≡ cond b 1 0
sign true = refl
sign false = refl

pub returns : goal.returns
returns c =
    let words = c.index-words.result.now in
    let at = c.word_place-at.result in
    let one = c.args.one in
    let within : at < length words.items = omega (arith, c.if-at-len.false, c.len-2.ensures) in
    let word : c.index.result.now ≡ get_or words.items at 0 =
    c.index.ensures ∙ get_or_default words.items at c.index.result.now 0 within in
    λ none. record {
      words = words;
      batch = omega (arith, c.if-batch-len.false, c.len.ensures);
      there = sym c.index-words.ensures;
      word = omega (arith, within, c.word_place-at.ensures);
      clear = λ set. not_both c.has_bit.result none (c.has_bit.ensures.1
          (ap (λ k. bit_at c.index.result.now (one.atom % 32 * 2 + k)) (sign one.positive)
          ∙ (ap (λ w. bit_at w (bit_of one))
          (word ∙ ap (λ k. get_or words.items k 0) c.word_place-at.ensures) ∙ set)));
    }
