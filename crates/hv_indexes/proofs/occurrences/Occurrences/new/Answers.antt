use Rattle.std.proofs.Common.{subst, sym}
use Rattle.hv_indexes.specs.Working.Pairs.{AreEntryPairs}
use Rattle.hv_indexes.proofs.Alone.{index_of_none}
use Rattle.hv_indexes.proofs.Standings.{index_from}
use Rattle.hv_indexes.proofs.occurrences.Occurrences.new.Goals as goal

pub returns-then-is_empty : goal.returns-then-is_empty
returns-then-is_empty c =
    index_of_none c.args.clauses.now c.in_ok-codes.codes.negative.items
    c.in_ok-codes.codes.positive.items c.requires.few c.in_ok-codes.ensures.negative
    c.in_ok-codes.ensures.positive (c.is_empty.ensures.negative c.if-is_empty.true)
    (c.is_empty.ensures.positive c.if-is_empty.true)

pub new-requires-clause-few : goal.new-requires-clause-few
new-requires-clause-few c = c.requires.few

pub new-requires-clause-below : goal.new-requires-clause-below
new-requires-clause-below c = c.requires.below

pub new-requires-clause-pairs : goal.new-requires-clause-pairs
new-requires-clause-pairs c =
    subst (AreEntryPairs c.args.clauses.now) (sym c.deref.ensures.value) c.in_ok-pairs.ensures

pub new-requires-clause-codes : goal.new-requires-clause-codes
new-requires-clause-codes c = c.in_ok-codes.ensures.negative

pub new-requires-2-clause-few : goal.new-requires-2-clause-few
new-requires-2-clause-few c = c.requires.few

pub new-requires-2-clause-below : goal.new-requires-2-clause-below
new-requires-2-clause-below c = c.requires.below

pub new-requires-2-clause-pairs : goal.new-requires-2-clause-pairs
new-requires-2-clause-pairs c =
    subst (AreEntryPairs c.args.clauses.now) (sym c.deref-2.ensures.value) c.in_ok-pairs.ensures

pub new-requires-2-clause-codes : goal.new-requires-2-clause-codes
new-requires-2-clause-codes c = c.in_ok-codes.ensures.positive

pub of-requires : goal.of-requires
of-requires c = c.in_ok-negative.ensures.few

pub returns : goal.returns
returns c =
    index_from c.args.clauses.now c.in_ok-listed.listed
    (c.in_ok-listed.ensures c.args.clauses.now c.in_ok-negative.ensures.rows
    c.in_ok-positive.ensures.rows) c.in_ok-new.field-0 c.in_ok-new.ensures.ok
