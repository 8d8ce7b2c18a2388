-- What a search for reached pairs knows: of each row what actions were told of it, and of each
-- action how it stands.
use Rattle.std.specs.Prelude.{◌≡◌, ◌+◌, ◌<◌, ◌≤◌, ◌⊎◌, ℕ, Bool, true, false, List, length, Some}
use Rattle.std.specs.Prelude.{MatchOption, Option, slice_get, slice_index, ⊤}
use Rattle.std.specs.List.{All, Contains}
use Rattle.hv_task.specs.declared.action.Action.{Action}
use Rattle.hv_task.specs.State.{has_atom}
use Rattle.hv_task.specs.Strips.{Strips, atoms}
use Rattle.hv_reach.specs.declared.pair_course.Course.{Course}
use Rattle.hv_reach.specs.declared.pair_course.Glance.{Glance}
use Rattle.hv_reach.specs.declared.pair_course.Lack.{Lack}
use Rattle.hv_reach.specs.declared.pair_course.News.{News}
use Rattle.hv_reach.specs.declared.pair_course.ActionStanding.{ActionStanding}
use Rattle.hv_reach.specs.declared.pair_course.ActionStanding.TheVariants as S
use Rattle.hv_reach.specs.declared.pair_search.PairSearch.{PairSearch}
use Rattle.hv_reach.specs.Reached.{HasPairsOf, LeavesAlone, has_pair}
use Rattle.hv_reach.specs.Working.Index.{IsInRest}
use Rattle.hv_reach.specs.Working.Table.{HaveTheirPairs, IsPairTable, IsSquare}

-- the pairs of a list before a place are in the set: those of the rows before it, and in its row
-- those of the columns before it
pub record ArePairedBefore (set : ℕ → ℕ → Bool) (list : List ℕ) (row column : ℕ) : Type 0 where
  pub rows : (i j : ℕ) → i < row → i < length list → j < length list
      → set (slice_index list i) (slice_index list j) ≡ true
  pub columns : (j : ℕ) → j < column → j < length list
      → set (slice_index list row) (slice_index list j) ≡ true

-- the pair is one of the list, at its place, and those before it are in the set
pub record IsLack (set : ℕ → ℕ → Bool) (list : List ℕ) (lack : Lack) : Type 0 where
  pub row : lack.row < length list
  pub column : lack.column < length list
  pub first : slice_index list lack.row ≡ lack.first
  pub second : slice_index list lack.column ≡ lack.second
  pub before : ArePairedBefore set list lack.row lack.column

-- the lack is the first pair of the list that isn't in the set, or there is none
abbrev pub IsFirstLack : (ℕ → ℕ → Bool) → List ℕ → Option Lack → Type 0
IsFirstLack set list found = MatchOption found (HasPairsOf set list)
    (λ lack. IsLack set list lack × (set lack.first lack.second ≡ false))

-- the atom is among the news, or these don't say which atoms are
abbrev pub IsNews : News → ℕ → Type 0
IsNews news q =
    (news.many ≡ true)
    ⊎ ((k : ℕ) × (k < news.count) × (slice_index news.atoms.items k ≡ q))

-- the news are of atoms below this number
pub record AreNewsBelow (bound : ℕ) (news : News) : Type 0 where
  pub count : news.count ≤ length news.atoms.items
  pub below : (k : ℕ) → k < news.count → slice_index news.atoms.items k < bound

-- both atoms are of the list
abbrev pub IsGlance : List ℕ → Glance → Type 0
IsGlance list glance = Contains list glance.first × Contains list glance.second

-- the action's own pairs are in, and what it gives with each atom that was told of all of its
-- precondition, but for news
pub record IsServed (But : ℕ → Type 0) (told rows : List (List Bool)) (a : Action) : Type 0 where
  pub pre : HasPairsOf (has_pair rows) a.pre
  pub add : HasPairsOf (has_pair rows) a.add
  pub each : (q : ℕ) → LeavesAlone a q → All (λ p. has_pair told p q ≡ true) a.pre
      → But q ⊎ All (λ p. has_pair rows p q ≡ true) a.add

-- the action stands so, but for news
abbrev pub StandsSo : (ℕ → Type 0) → List (List Bool) → List (List Bool) → Action → ActionStanding
    → Type 0
StandsSo But told rows a S.New = ⊤
StandsSo But told rows a (S.Lacks lack) = IsLack (has_pair rows) a.pre lack
StandsSo But told rows a (S.Ready glance) = IsGlance a.pre glance × IsServed But told rows a

-- each action stands as it is said, but for news
abbrev pub StandAll : (ℕ → Type 0) → List Action → List (List Bool) → List (List Bool)
    → List ActionStanding → Type 0
StandAll But actions told rows standing =
    (k : ℕ) (a : Action) (s : ActionStanding) → slice_get actions k ≡ Some a
    → slice_get standing k ≡ Some s → StandsSo But told rows a s

-- each action stands as it is said; those that are left in the list but for news
abbrev pub StandAllBut : List ℕ → ℕ → (ℕ → Type 0) → List Action → List (List Bool)
    → List (List Bool) → List ActionStanding → Type 0
StandAllBut numbers from But actions told rows standing =
    (k : ℕ) (a : Action) (s : ActionStanding) → slice_get actions k ≡ Some a
    → slice_get standing k ≡ Some s
    → StandsSo (λ q. ⊥) told rows a s
    ⊎ (IsInRest numbers from k × StandsSo But told rows a s)

-- an action has the atom in its precondition
abbrev pub IsAskedFor : List Action → ℕ → Type 0
IsAskedFor actions p = (k : ℕ) × (a : Action) × (slice_get actions k ≡ Some a) × Contains a.pre p

-- what was told are pairs of the table, and a row that has more has its flag raised, if it is that
-- of an atom which is asked for
pub record IsRowTold (n : ℕ) (Asked : ℕ → Type 0) (rows : List (List Bool)) (flags : List Bool)
    (told : List (List Bool)) : Type 0 where
  pub size : length told ≡ n
  pub each : All (λ row. length row ≡ n) told
  pub within : (p q : ℕ) → has_pair told p q ≡ true → has_pair rows p q ≡ true
  pub raised : (p : ℕ) → Asked p → (q : ℕ) → has_pair rows p q ≡ true
      → (has_pair told p q ≡ true) ⊎ (has_atom flags p ≡ true)

-- these actions, if there are some, were told of a row of the table, and what was new in it are the
-- news
pub record IsTelling (n : ℕ) (numbers : List ℕ) (rows old new : List (List Bool)) (x : ℕ)
    (news : News) : Type 0 where
  pub size : length new ≡ n
  pub each : All (λ row. length row ≡ n) new
  pub below : AreNewsBelow n news
  pub keeps : (p q : ℕ) → has_pair old p q ≡ true → has_pair new p q ≡ true
  pub whole : x < n → 0 < length numbers → (q : ℕ) → has_pair rows x q ≡ true
      → has_pair new x q ≡ true
  pub fresh : (p q : ℕ) → has_pair new p q ≡ true
      → (has_pair old p q ≡ true) ⊎ ((p ≡ x) × (has_pair rows x q ≡ true) × IsNews news q)

-- the sizes of what is kept
pub record IsSized (n m : ℕ) (course : Course) : Type 0 where
  pub standing : length course.standing.items ≡ m
  pub mask : length course.mask ≡ n
  pub seen : length course.seen ≡ n

-- what is kept of each atom is over so many atoms
pub record IsCourseOver (n : ℕ) (course : Course) : Type 0 where
  pub told : IsSquare n course.told.items
  pub mask : length course.mask ≡ n
  pub seen : length course.seen ≡ n

-- there is space for a search over so many atoms
pub record IsSpaceFor (n : ℕ) (search : PairSearch) : Type 0 where
  pub rows : IsSquare n search.rows.items
  pub flags : length search.flags ≡ n + 1
  pub course : IsCourseOver n search.course

-- what a search for reached pairs keeps
pub record IsPairSearch (task : Strips) (search : PairSearch) : Type 0 where
  pub table : IsPairTable (atoms task) search.rows.items
  pub size : length search.flags ≡ atoms task + 1
  pub ready : HaveTheirPairs (atoms task) task.actions search.rows.items search.flags
  pub told : IsRowTold (atoms task) (IsAskedFor task.actions) search.rows.items search.flags
      search.course.told.items
  pub stand : StandAll (λ q. ⊥) task.actions search.course.told.items search.rows.items
      search.course.standing.items
  pub sized : IsSized (atoms task) (length task.actions) search.course

-- what is known of this action may be other than before, and of nothing else
pub record IsKeptBut (number : ℕ) (old new : Course) : Type 0 where
  pub told : new.told ≡ old.told
  pub news : new.news ≡ old.news
  pub seen : new.seen ≡ old.seen
  pub mask : length new.mask ≡ length old.mask
  pub count : length new.standing.items ≡ length old.standing.items
  pub others : (k : ℕ) → (k ≡ number → ⊥)
      → slice_get new.standing.items k ≡ slice_get old.standing.items k
