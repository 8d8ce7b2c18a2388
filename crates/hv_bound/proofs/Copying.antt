-- The making of the copies, one after another, and what each of them keeps.
use Rattle.std.proofs.Common.{◌≡◌, ℕ, suc, ◌+◌, ◌-◌, ◌<◌, ◌≤◌, ◌∙◌, ◌++◌, ◌∷◌, [], List}
use Rattle.std.proofs.Common.{Some, eqb, length, length-append, take, drop, map, sym, ap}
use Rattle.std.proofs.Common.{arith}
use Rattle.std.proofs.Math.Seq.{drop-length, take-length}
use Rattle.std.proofs.lemmas.Bool.{cond-true, cond-false, eq-eqb, ne_eqb}
use Rattle.std.proofs.lemmas.List.{append-nil, append_assoc, drop_all, drop_more, length-map}
use Rattle.std.proofs.lemmas.List.Elements.{All-push}
use Rattle.std.proofs.lemmas.List.FromFn.{length-range_with_len}
use Rattle.std.proofs.lemmas.Option.{get_or_from_slice_get, slice_get_within}
use Rattle.std.specs.List.{enumerate_from, flat_map, insert, range_with_len, slice_get}
use Rattle.std.specs.List.Sorted.{IsStrictlyIncreasing}
use Rattle.hv_task.specs.declared.action.Action.{Action}
use Rattle.hv_task.specs.AtomList.{Inserts}
use Rattle.hv_task.specs.State.{AreBelow}
use Rattle.hv_task.specs.Strips.{IsOver, Strips, atoms}
use Rattle.hv_task.proofs.Lists.{take_next}
use Rattle.hv_task.proofs.Rising.{Inserts-insert, place_at_end, same_rising}
use Rattle.hv_task.proofs.Tasks.{AreBelow-more, IsOver-more}
use Rattle.hv_bound.specs.Bounded.{amounts, copies, free_copy, counter_name, paid_copy}

-- the first of the amounts that there are, and the rest of them
pub amounts_next : (least most : ℕ) → least ≤ most
    → amounts least most ≡ least ∷ amounts (least + 1) most
amounts_next least most upto =
    let e : most + 1 - least ≡ suc (most + 1 - (least + 1)) = omega arith in
    ap (λ n. range_with_len least n) e

pub amounts_none : (least most : ℕ) → most < least → amounts least most ≡ []
amounts_none least most less =
    let e : most + 1 - least ≡ 0 = omega arith in ap (λ n. range_with_len least n) e

pub length-amounts : (least most : ℕ) → length (amounts least most) ≡ most + 1 - least
length-amounts least most = length-range_with_len least (most + 1 - least)

-- what a loop over the amounts has made, and what is left to make
pub made_amount : {X : Type 0} (f : ℕ → X) (old whole : List X) (least most : ℕ) → least < most + 1
    → old ++ map f (amounts least most) ≡ whole
    → (old ++ f least ∷ []) ++ map f (amounts (least + 1) most) ≡ whole
made_amount f old whole least most less h =
    append_assoc old (f least ∷ []) (map f (amounts (least + 1) most))
    ∙ ap (λ xs. old ++ map f xs) (sym (amounts_next least most (omega arith))) ∙ h

pub made_amounts : {X : Type 0} (f : ℕ → X) (old whole : List X) (least most : ℕ) → most + 1 ≤ least
    → old ++ map f (amounts least most) ≡ whole → old ≡ whole
made_amounts f old whole least most upto h =
    sym (append-nil old)
    ∙ ap (λ xs. old ++ map f xs) (sym (amounts_none least most (omega arith))) ∙ h

-- there is space for what is still to be made
pub room_left : {X : Type 0} (old rest whole : List X) (n : ℕ) → old ++ rest ≡ whole
    → length whole ≤ n → length old + length rest ≤ n
room_left old rest whole n h few = omega (arith, length-append old rest, ap length h)

-- the copies of the actions from this number on
abbrev pub copies_from : ℕ → ℕ → List Action → ℕ → List Action
copies_from first most actions number =
    flat_map (λ (number, action). copies first most number action)
    (enumerate_from number (drop number actions))

pub copies_next : (first most : ℕ) (actions : List Action) (number : ℕ) (a : Action)
    → slice_get actions number ≡ Some a
    → copies_from first most actions number
    ≡ copies first most number a ++ copies_from first most actions (number + 1)
copies_next first most actions number a named =
    ap (λ xs. flat_map (λ (number, action). copies first most number action)
    (enumerate_from number xs))
    (drop_more actions number a (slice_get_within actions number a named)
    ∙ ap (λ x. x ∷ drop (number + 1) actions) (get_or_from_slice_get actions number a a named))

pub copies_none : (first most : ℕ) (actions : List Action) (number : ℕ) → length actions ≤ number
    → copies_from first most actions number ≡ []
copies_none first most actions number upto =
    ap (λ xs. flat_map (λ (number, action). copies first most number action)
    (enumerate_from number xs)) (drop_all number actions upto)

pub made_copies : (first most : ℕ) (actions old whole : List Action) (number : ℕ) (a : Action)
    → slice_get actions number ≡ Some a → old ++ copies_from first most actions number ≡ whole
    → (old ++ copies first most number a) ++ copies_from first most actions (number + 1) ≡ whole
made_copies first most actions old whole number a named h =
    append_assoc old (copies first most number a) (copies_from first most actions (number + 1))
    ∙ ap (λ xs. old ++ xs) (sym (copies_next first most actions number a named)) ∙ h

pub made_all_copies : (first most : ℕ) (actions old whole : List Action) (number : ℕ)
    → length actions ≤ number → old ++ copies_from first most actions number ≡ whole → old ≡ whole
made_all_copies first most actions old whole number upto h =
    sym (append-nil old)
    ∙ ap (λ xs. old ++ xs) (sym (copies_none first most actions number upto)) ∙ h

-- there is space for the copies of the next action
pub room_next : (first most : ℕ) (actions old whole : List Action) (number : ℕ) (a : Action) (n : ℕ)
    → slice_get actions number ≡ Some a → old ++ copies_from first most actions number ≡ whole
    → length whole ≤ n → length old + length (copies first most number a) ≤ n
room_next first most actions old whole number a n named h few =
    omega (
      arith,
      room_left old (copies_from first most actions number) whole n h few,
      ap length (copies_next first most actions number a named),
      length-append (copies first most number a) (copies_from first most actions (number + 1)),
    )

-- the copies of an action, where it costs nothing and where it costs something
pub copies_free : (first most number : ℕ) (a : Action) → a.cost ≡ 0
    → copies first most number a ≡ free_copy number a ∷ []
copies_free first most number a e =
    cond-true (eqb a.cost 0) (free_copy number a ∷ [])
    (map (paid_copy first number a) (amounts a.cost most)) (eq-eqb a.cost 0 e)

pub copies_paid : (first most number : ℕ) (a : Action) → (a.cost ≡ 0 → ⊥)
    → copies first most number a ≡ map (paid_copy first number a) (amounts a.cost most)
copies_paid first most number a ne =
    cond-false (eqb a.cost 0) (free_copy number a ∷ [])
    (map (paid_copy first number a) (amounts a.cost most)) (ne_eqb a.cost 0 ne)

pub length-copies_paid : (first most number : ℕ) (a : Action) → (a.cost ≡ 0 → ⊥)
    → length (copies first most number a) ≡ most + 1 - a.cost
length-copies_paid first most number a ne =
    ap length (copies_paid first most number a ne)
    ∙ length-map (amounts a.cost most) (paid_copy first number a)
    ∙ length-amounts a.cost most

-- how many copies were counted, and how many are left to count
pub counted_next : (first most : ℕ) (actions : List Action) (number : ℕ) (a : Action)
    (old n whole : ℕ)
    → slice_get actions number ≡ Some a → n ≡ length (copies first most number a)
    → old + length (copies_from first most actions number) ≡ whole
    → (old + n) + length (copies_from first most actions (number + 1)) ≡ whole
counted_next first most actions number a old n whole named here h =
    omega (
      arith,
      ap length (copies_next first most actions number a named),
      length-append (copies first most number a) (copies_from first most actions (number + 1)),
    )

pub counted_all : (first most : ℕ) (actions : List Action) (number old whole : ℕ)
    → length actions ≤ number → old + length (copies_from first most actions number) ≡ whole
    → old ≡ whole
counted_all first most actions number old whole upto h =
    omega (arith, ap length (copies_none first most actions number upto))

-- copies speak of the atoms of the made task alone
pub IsOver-free_copy : (n bound number : ℕ) (a : Action) → n ≤ bound → IsOver n a
    → IsOver bound (free_copy number a)
IsOver-free_copy n bound number a upto over =
    let more = IsOver-more n bound a upto over in
    record { pre = more.pre; add = more.add; del = more.del }

pub AreBelow-push : (n bound : ℕ) (xs : List ℕ) (x : ℕ) → n ≤ bound → x < bound → AreBelow n xs
    → AreBelow bound (xs ++ x ∷ [])
AreBelow-push n bound xs x upto less below =
    All-push (λ k. k < bound) xs x (AreBelow-more n bound xs upto below) less

pub IsOver-paid_copy : (n bound number : ℕ) (a : Action) (left : ℕ) → n + left < bound
    → a.cost ≤ left → IsOver n a → IsOver bound (paid_copy n number a left)
IsOver-paid_copy n bound number a left less pays over = record {
  pre = AreBelow-push n bound a.pre (n + left) (omega arith) less over.pre;
  add = AreBelow-push n bound a.add (n + left - a.cost) (omega arith) (omega arith) over.add;
  del = AreBelow-push n bound a.del (n + left) (omega arith) less over.del;
}

-- an atom that is greater than each of a set is put in at the end
pub inserts_last : (old new : List ℕ) (x : ℕ) → IsStrictlyIncreasing old → AreBelow x old
    → Inserts old x new → new ≡ old ++ x ∷ []
inserts_last old new x rises below inserts =
    let here = Inserts-insert old x (length old) rises
    (place_at_end old x rises (λ some. below (length old - 1) 0 (omega arith))) in
    same_rising new (insert old (length old) x) inserts.rises here.rises
    (λ a c. (here.has a).1 ((inserts.has a).0 c)) (λ a c. (inserts.has a).1 ((here.has a).0 c))
    ∙ ap (λ xs. xs ++ x ∷ drop (length old) old) (take-length old)
    ∙ ap (λ xs. old ++ x ∷ xs) (drop-length old)

-- a task that grew by an atom, and otherwise is as it was at the start
pub grown_names : (start old new : Strips) (x y : List ℕ) → old ≡ record start { names = old.names }
    → new ≡ record old { names = old.names ++ x ∷ [] } → x ≡ y
    → (new ≡ record start { names = new.names }) × (new.names ≡ old.names ++ y ∷ [])
grown_names start old new x y same h e =
    let names = ap (λ (t : Strips). t.names) h in (
      h ∙ ap (λ (t : Strips). record t { names = old.names ++ x ∷ [] }) same
          ∙ ap (λ (xs : List (List ℕ)). record start { names = xs }) (sym names),
      names ∙ ap (λ (z : List ℕ). old.names ++ z ∷ []) e,
    )

-- a task that grew by actions, and otherwise is as it was at the start
pub grown_actions : (start old new : Strips) (xs : List Action)
    → old ≡ record start { actions = old.actions }
    → new ≡ record old { actions = old.actions ++ xs }
    → (new ≡ record start { actions = new.actions }) × (new.actions ≡ old.actions ++ xs)
grown_actions start old new xs same h =
    let actions = ap (λ (t : Strips). t.actions) h in (
      h ∙ ap (λ (t : Strips). record t { actions = old.actions ++ xs }) same
          ∙ ap (λ (ys : List Action). record start { actions = ys }) (sym actions),
      actions,
    )

-- the name of one atom more
pub named_more : (start old new : Strips) (names : List (List ℕ)) (k : ℕ) (x y : List ℕ)
    → old ≡ record start { names = take k names } → slice_get names k ≡ Some y → x ≡ y
    → new ≡ record old { names = old.names ++ x ∷ [] }
    → new ≡ record start { names = take (k + 1) names }
named_more start old new names k x y same named e h =
    h ∙ ap (λ (t : Strips). record t { names = t.names ++ x ∷ [] }) same
    ∙ ap (λ (z : List ℕ). record start { names = take k names ++ z ∷ [] }) e
    ∙ ap (λ (xs : List (List ℕ)). record start { names = xs }) (sym (take_next names k y named))

-- the copies of one action more
pub more_copies : (first most : ℕ) (actions : List Action) (start old new : Strips)
    (whole : List Action) (number : ℕ) (a : Action) (xs : List Action)
    → old ≡ record start { actions = old.actions }
    → old.actions ++ copies_from first most actions number ≡ whole
    → slice_get actions number ≡ Some a → new ≡ record old { actions = old.actions ++ xs }
    → xs ≡ copies first most number a
    → (new ≡ record start { actions = new.actions })
    × (new.actions ++ copies_from first most actions (number + 1) ≡ whole)
more_copies first most actions start old new whole number a xs same rest named h e =
    let grown = grown_actions start old new xs same h in (
      grown.0,
      ap (λ ys. ys ++ copies_from first most actions (number + 1))
          (grown.1 ∙ ap (λ ys. old.actions ++ ys) e)
          ∙ made_copies first most actions old.actions whole number a named rest,
    )

-- how many atoms there are once those for the amounts are added
pub atoms_made : (start named grown : Strips) (names : List (List ℕ)) (most : ℕ)
    → named ≡ record start { names = names }
    → grown ≡ record named { names = named.names ++ map counter_name (amounts 0 most) }
    → atoms grown ≡ length names + (most + 1)
atoms_made start named grown names most n g =
    ap (λ (t : Strips). length t.names) g
    ∙ length-append named.names (map counter_name (amounts 0 most))
    ∙ ap (λ (t : Strips). length t.names + length (map counter_name (amounts 0 most))) n
    ∙ ap (λ k. length names + k)
    (length-map (amounts 0 most) counter_name ∙ length-amounts 0 most
    ∙ (let e : most + 1 - 0 ≡ most + 1 = omega arith in e))
