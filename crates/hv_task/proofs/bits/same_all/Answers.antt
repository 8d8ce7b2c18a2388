use Rattle.std.proofs.Common.{◌≡◌, true, false, ap, refl, arith}
use Rattle.hv_task.specs.Working.Words.{flags_of}
use Rattle.hv_task.proofs.Flags.{agreed, other_words, packed_upto}
use Rattle.hv_task.proofs.bits.same_all.Goals as goal

pub bounds-other-place : goal.bounds-other-place
bounds-other-place c =
    let size = packed_upto c.args.words.now c.args.other.now c.args.count c.args.count
    c.requires.words c.requires.other refl in
    let less = c.loop-place-test.true in omega arith

pub returns-then-words-place : goal.returns-then-words-place
returns-then-words-place c = (
  λ e. let f : false ≡ true = e in absurd cc,
  λ same. absurd (other_words c.args.words.now c.args.other.now c.args.count c.loop-place.place
      c.requires.words c.requires.other
      (λ k. (c.type_inv.words k).fits) (λ k. (c.type_inv.other k).fits) c.if-words-place.true same),
)

pub returns : goal.returns
returns c = (
  λ _. ap (λ w. flags_of w c.args.count)
      (agreed c.args.words.now c.args.other.now c.args.count c.loop-place.place c.requires.words
      c.requires.other c.loop-place-test.false c.loop-place.invariant),
  λ _. refl,
)
