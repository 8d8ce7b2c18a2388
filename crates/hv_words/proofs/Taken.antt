-- What each command reads in words of its form.
use Rattle.std.proofs.Common.{◌≡◌, ◌∙◌, ◌&&◌, ◌⊎◌, ℕ, Bool, true, false, List, [], ◌∷◌, Option}
use Rattle.std.proofs.Common.{Some, None, cond, option_map, codes, inl, inr, refl, ap, ap₂, subst}
use Rattle.std.proofs.Common.{sym, true≢false}
use Rattle.std.specs.Borrow.{Bor}
use Rattle.std.specs.Option.{is_some}
use Rattle.std.proofs.lemmas.Option.{same_Some}
use Rattle.std.proofs.lemmas.Slice.Eq.{bytes_eq-Decides}
use Rattle.clap.proofs.OnLiterals.{clap_on_literals}
use Rattle.clap.proofs.WalkLemmas.{both, first_value-rows}
use Rattle.clap.specs.Matches.{first_value, found_of}
use Rattle.clap.specs.Simple.{App, HasMatchesOf, Shape, built, is_simple, matches_of}
use Rattle.clap.specs.Takes.{settle_passes, takes, turn_passes}
use Rattle.clap.specs.declared.parser.matches.ArgMatches.{ArgMatches}
use Rattle.clap.specs.Walk.{Held, Row, Text, Walk, finished, first_of, idle, nothing_held}
use Rattle.clap.specs.Walk.{option as waits_for, settled, walk_from, walked}
use Rattle.hv_words.specs.Working.Commands.{check_app, one_app, two_app}
use Rattle.hv_words.specs.Forms.{CheckTexts, OptionTexts, both_options, check_texts, is_argument}
use Rattle.hv_words.specs.Forms.{is_budget, is_nodes, one_option, one_text, option_texts, two_texts}
use Rattle.hv_words.specs.Forms.{with_arguments}
use Rattle.hv_words.proofs.Walked.{Ends, Goes, after, at, goes_by, goes_nowhere, goes_on, reached}

-- what a test has chosen
either : {X : Type 0} (test : Bool) {x y : Option X} {z : X} → cond test x y ≡ Some z
    → ((test ≡ true) × (x ≡ Some z)) ⊎ ((test ≡ false) × (y ≡ Some z))
either true e = inl (refl, e)
either false e = inr (refl, e)

only : {X : Type 0} (test : Bool) {x : Option X} {z : X} → cond test x None ≡ Some z
    → (test ≡ true) × (x ≡ Some z)
only true e = (refl, e)
only false e = cc

chosen : {X : Type 0} (test : Bool) (x : X) → is_some (cond test (Some x) None) ≡ true → test ≡ true
chosen true x e = refl
chosen false x e = absurd (true≢false (sym e))

-- one argument, or two
module _ (name : Text) where
  pub one_simple : is_simple (one_app name) ≡ true
  unfolding clap_on_literals
  one_simple = refl

  abbrev one_shape : Shape
  one_shape = (built (one_app name)).top

  pub one_taken : (word : Text) → is_argument word ≡ true
      → (takes (one_app name) (word ∷ []) ≡ true)
      × (first_of (codes "first") (matches_of (one_app name) (word ∷ [])) ≡ Some word)
  one_taken word h =
      let end : Walk = after one_shape.rules nothing_held idle 1 word in
      let all = reached (one_app name) one_simple refl refl (word ∷ []) end
      (goes_on one_shape nothing_held idle 1 end word [] h refl (goes_nowhere one_shape end))
      refl in
      (all.0, ap (first_of (codes "first")) all.1)

  pub two_simple : is_simple (two_app name) ≡ true
  unfolding clap_on_literals
  two_simple = refl

  abbrev two_shape : Shape
  two_shape = (built (two_app name)).top

  pub two_taken : (first second : Text) → is_argument first ≡ true → is_argument second ≡ true
      → (takes (two_app name) (first ∷ second ∷ []) ≡ true)
      × (first_of (codes "first") (matches_of (two_app name) (first ∷ second ∷ [])) ≡ Some first)
      × (first_of (codes "second") (matches_of (two_app name) (first ∷ second ∷ [])) ≡ Some second)
  two_taken first second h k =
      let next : Walk = after two_shape.rules nothing_held idle 1 first in
      let end : Walk = after two_shape.rules next.held idle 2 second in
      let last = goes_on two_shape next.held idle 2 end second [] k refl
      (goes_nowhere two_shape end) in
      let all = reached (two_app name) two_simple refl refl (first ∷ second ∷ []) end
      (goes_on two_shape nothing_held idle 1 end first (second ∷ []) h refl last) refl in
      (all.0, ap (first_of (codes "first")) all.1, ap (first_of (codes "second")) all.1)

-- what is read in the matches
pub record ReadsWord (rows : List Row) (texts : CheckTexts) : Type 0 where
  pub task : first_of (codes "task") rows ≡ Some texts.task
  pub proof : first_of (codes "proof") rows ≡ Some texts.proof
  pub nodes : first_of (codes "nodes") rows ≡ texts.nodes
  pub budget : first_of (codes "budget") rows ≡ texts.budget

-- a check
module _ (name : Text) where
  pub check_simple : is_simple (check_app name) ≡ true
  unfolding clap_on_literals
  check_simple = refl

  abbrev shape : Shape
  shape = (built (check_app name)).top

  -- an option is met, and waits for its value
  abbrev met_option : Text → Held → Held
  met_option id held = record (settled shape.rules held) { pending = Some (id, []) }

  -- and has it
  abbrev with_value : Text → Text → Held → Held
  with_value id value held = record (settled shape.rules held) { pending = Some (id, value ∷ []) }

  abbrev Settles : Held → Type 0
  Settles held = settle_passes shape.rules false held ≡ true

  nodes_walked : (held : Held) (position : ℕ)
      → walked shape.rules [] (at shape.rules held idle position) (codes "--nodes")
      ≡ at shape.rules (met_option (codes "nodes") held) (waits_for (codes "nodes")) position
  unfolding clap_on_literals
  nodes_walked held position = refl

  budget_walked : (held : Held) (position : ℕ)
      → walked shape.rules [] (at shape.rules held idle position) (codes "--budget")
      ≡ at shape.rules (met_option (codes "budget") held) (waits_for (codes "budget")) position
  unfolding clap_on_literals
  budget_walked held position = refl

  nodes_turn : (held : Held) (position : ℕ) → Settles held
      → turn_passes shape [] (at shape.rules held idle position) (codes "--nodes") ≡ true
  unfolding clap_on_literals
  nodes_turn held position settles = ap (λ b. b && true) settles

  budget_turn : (held : Held) (position : ℕ) → Settles held
      → turn_passes shape [] (at shape.rules held idle position) (codes "--budget") ≡ true
  unfolding clap_on_literals
  budget_turn held position settles = ap (λ b. b && true) settles

  -- an option and its value are passed
  by_option : (id word : Text) (held : Held) (position : ℕ) (end : Walk) (value : Text)
      (rest : List Text)
      → walked shape.rules [] (at shape.rules held idle position) word
      ≡ at shape.rules (met_option id held) (waits_for id) position
      → turn_passes shape [] (at shape.rules held idle position) word ≡ true
      → Goes shape (at shape.rules (met_option id held) (waits_for id) position) (value ∷ rest) end
      → Goes shape (at shape.rules held idle position) (word ∷ value ∷ rest) end
  by_option id word held position end value rest walk turn more =
      goes_by shape (at shape.rules held idle position)
      (at shape.rules (met_option id held) (waits_for id) position) end word (value ∷ rest)
      walk turn more

  by_nodes : (held : Held) (position : ℕ) (end : Walk) (value : Text) (rest : List Text)
      → is_argument value ≡ true → Settles held
      → Goes shape (at shape.rules (with_value (codes "nodes") value held) idle position) rest end
      → Goes shape (at shape.rules held idle position) (codes "--nodes" ∷ value ∷ rest) end
  by_nodes held position end value rest h settles more =
      by_option (codes "nodes") (codes "--nodes") held position end value rest
      (nodes_walked held position) (nodes_turn held position settles)
      (goes_on shape (met_option (codes "nodes") held) (waits_for (codes "nodes")) position end
      value rest h refl more)

  by_budget : (held : Held) (position : ℕ) (end : Walk) (value : Text) (rest : List Text)
      → is_argument value ≡ true → Settles held
      → Goes shape (at shape.rules (with_value (codes "budget") value held) idle position) rest end
      → Goes shape (at shape.rules held idle position) (codes "--budget" ∷ value ∷ rest) end
  by_budget held position end value rest h settles more =
      by_option (codes "budget") (codes "--budget") held position end value rest
      (budget_walked held position) (budget_turn held position settles)
      (goes_on shape (met_option (codes "budget") held) (waits_for (codes "budget")) position end
      value rest h refl more)

  abbrev pub Taken : List Text → CheckTexts → Type 0
  Taken words texts = (takes (check_app name) words ≡ true)
      × ReadsWord (matches_of (check_app name) words) texts

  module _ (task proof : Text) (task_is : is_argument task ≡ true)
      (proof_is : is_argument proof ≡ true) where
    abbrev first_held : Held
    first_held = (after shape.rules nothing_held idle 1 task).held

    abbrev second_held : Held
    second_held = (after shape.rules first_held idle 2 proof).held

    by_arguments : (end : Walk) (rest : List Text)
        → Goes shape (at shape.rules second_held idle 3) rest end
        → Goes shape (walk_from nothing_held) (task ∷ proof ∷ rest) end
    by_arguments end rest more =
        goes_on shape nothing_held idle 1 end task (proof ∷ rest) task_is refl
        (goes_on shape first_held idle 2 end proof rest proof_is refl more)

    abbrev texts : OptionTexts → CheckTexts
    texts = with_arguments task proof

    -- where the walk comes to over the options
    abbrev from_arguments : List Text → Walk → Type 0
    from_arguments options end = Goes shape (at shape.rules second_held idle 3) options end

    taken : (options : List Text) (end : Walk) (given : OptionTexts) → from_arguments options end
        → Ends shape end.held
        → ReadsWord (finished shape.rules end.held) (texts given)
        → Taken (task ∷ proof ∷ options) (texts given)
    taken options end given goes ends reads =
        let all = reached (check_app name) check_simple refl refl (task ∷ proof ∷ options) end
        (by_arguments end options goes) ends in
        (all.0, subst (λ rows. ReadsWord rows (texts given)) (sym all.1) reads)

    none_taken : Taken (task ∷ proof ∷ []) (texts (record { nodes = None; budget = None }))
    none_taken =
        let end = at shape.rules second_held idle 3 in
        taken [] end (record { nodes = None; budget = None }) (goes_nowhere shape end) refl
        (record { task = refl; proof = refl; nodes = refl; budget = refl })

    nodes_taken : (value : Text) → is_argument value ≡ true
        → Taken (task ∷ proof ∷ codes "--nodes" ∷ value ∷ [])
        (texts (record { nodes = Some value; budget = None }))
    nodes_taken value h =
        let end = at shape.rules (with_value (codes "nodes") value second_held) idle 3 in
        taken (codes "--nodes" ∷ value ∷ []) end (record { nodes = Some value; budget = None })
        (by_nodes second_held 3 end value [] h refl (goes_nowhere shape end)) refl
        (record { task = refl; proof = refl; nodes = refl; budget = refl })

    budget_taken : (value : Text) → is_argument value ≡ true
        → Taken (task ∷ proof ∷ codes "--budget" ∷ value ∷ [])
        (texts (record { nodes = None; budget = Some value }))
    budget_taken value h =
        let end = at shape.rules (with_value (codes "budget") value second_held) idle 3 in
        taken (codes "--budget" ∷ value ∷ []) end (record { nodes = None; budget = Some value })
        (by_budget second_held 3 end value [] h refl (goes_nowhere shape end)) refl
        (record { task = refl; proof = refl; nodes = refl; budget = refl })

    nodes_budget_taken : (value second : Text) → is_argument value ≡ true
        → is_argument second ≡ true
        → Taken (task ∷ proof ∷ codes "--nodes" ∷ value ∷ codes "--budget" ∷ second ∷ [])
        (texts (record { nodes = Some value; budget = Some second }))
    nodes_budget_taken value second h k =
        let held = with_value (codes "nodes") value second_held in
        let end = at shape.rules (with_value (codes "budget") second held) idle 3 in
        taken (codes "--nodes" ∷ value ∷ codes "--budget" ∷ second ∷ []) end
        (record { nodes = Some value; budget = Some second })
        (by_nodes second_held 3 end value (codes "--budget" ∷ second ∷ []) h refl
        (by_budget held 3 end second [] k refl (goes_nowhere shape end))) refl
        (record { task = refl; proof = refl; nodes = refl; budget = refl })

    budget_nodes_taken : (value second : Text) → is_argument value ≡ true
        → is_argument second ≡ true
        → Taken (task ∷ proof ∷ codes "--budget" ∷ value ∷ codes "--nodes" ∷ second ∷ [])
        (texts (record { nodes = Some second; budget = Some value }))
    budget_nodes_taken value second h k =
        let held = with_value (codes "budget") value second_held in
        let end = at shape.rules (with_value (codes "nodes") second held) idle 3 in
        taken (codes "--budget" ∷ value ∷ codes "--nodes" ∷ second ∷ []) end
        (record { nodes = Some second; budget = Some value })
        (by_budget second_held 3 end value (codes "--nodes" ∷ second ∷ []) h refl
        (by_nodes held 3 end second [] k refl (goes_nowhere shape end))) refl
        (record { task = refl; proof = refl; nodes = refl; budget = refl })

    -- one option, as the table has it
    nodes_given : (option value : Text) (given : OptionTexts) → is_argument value ≡ true
        → is_nodes option ≡ true
        → Some (record { nodes = Some value; budget = None }) ≡ Some given
        → Taken (task ∷ proof ∷ option ∷ value ∷ []) (texts given)
    nodes_given option value given h named is =
        subst (λ o. Taken (task ∷ proof ∷ o ∷ value ∷ []) (texts given))
        (sym ((bytes_eq-Decides option (codes "--nodes")).0 named))
        (subst (λ g. Taken (task ∷ proof ∷ codes "--nodes" ∷ value ∷ []) (texts g))
        (same_Some _ given is) (nodes_taken value h))

    budget_given : (option value : Text) (given : OptionTexts) → is_argument value ≡ true
        → is_budget option ≡ true
        → Some (record { nodes = None; budget = Some value }) ≡ Some given
        → Taken (task ∷ proof ∷ option ∷ value ∷ []) (texts given)
    budget_given option value given h named is =
        subst (λ o. Taken (task ∷ proof ∷ o ∷ value ∷ []) (texts given))
        (sym ((bytes_eq-Decides option (codes "--budget")).0 named))
        (subst (λ g. Taken (task ∷ proof ∷ codes "--budget" ∷ value ∷ []) (texts g))
        (same_Some _ given is) (budget_taken value h))

    one_option_taken : (option value : Text) (given : OptionTexts) → is_argument value ≡ true
        → one_option option value ≡ Some given
        → Taken (task ∷ proof ∷ option ∷ value ∷ []) (texts given)
    one_option_taken option value given h e = elim (either (is_nodes option) e) [
      | inl first ↦ nodes_given option value given h first.0 first.1
      | inr other ↦
          let last = only (is_budget option) other.1 in
          budget_given option value given h last.0 last.1
    ]

    -- both options, as the table has them
    nodes_budget_given : (option value other second : Text) (given : OptionTexts)
        → is_argument value ≡ true → is_argument second ≡ true
        → (is_nodes option && is_budget other) ≡ true
        → Some (record { nodes = Some value; budget = Some second }) ≡ Some given
        → Taken (task ∷ proof ∷ option ∷ value ∷ other ∷ second ∷ []) (texts given)
    nodes_budget_given option value other second given h k named is =
        let names = both (is_nodes option) (is_budget other) named in
        subst (λ o. Taken (task ∷ proof ∷ o ∷ value ∷ other ∷ second ∷ []) (texts given))
        (sym ((bytes_eq-Decides option (codes "--nodes")).0 names.0))
        (subst (λ o. Taken (task ∷ proof ∷ codes "--nodes" ∷ value ∷ o ∷ second ∷ []) (texts given))
        (sym ((bytes_eq-Decides other (codes "--budget")).0 names.1))
        (subst (λ g. Taken (task ∷ proof ∷ codes "--nodes" ∷ value ∷ codes "--budget" ∷ second ∷ [])
        (texts g)) (same_Some _ given is)
        (nodes_budget_taken value second h k)))

    budget_nodes_given : (option value other second : Text) (given : OptionTexts)
        → is_argument value ≡ true → is_argument second ≡ true
        → (is_budget option && is_nodes other) ≡ true
        → Some (record { nodes = Some second; budget = Some value }) ≡ Some given
        → Taken (task ∷ proof ∷ option ∷ value ∷ other ∷ second ∷ []) (texts given)
    budget_nodes_given option value other second given h k named is =
        let names = both (is_budget option) (is_nodes other) named in
        subst (λ o. Taken (task ∷ proof ∷ o ∷ value ∷ other ∷ second ∷ []) (texts given))
        (sym ((bytes_eq-Decides option (codes "--budget")).0 names.0))
        (subst (λ o. Taken (task ∷ proof ∷ codes "--budget" ∷ value ∷ o ∷ second ∷ [])
        (texts given)) (sym ((bytes_eq-Decides other (codes "--nodes")).0 names.1))
        (subst (λ g. Taken (task ∷ proof ∷ codes "--budget" ∷ value ∷ codes "--nodes" ∷ second ∷ [])
        (texts g)) (same_Some _ given is)
        (budget_nodes_taken value second h k)))

    both_options_taken : (option value other second : Text) (given : OptionTexts)
        → is_argument value ≡ true → is_argument second ≡ true
        → both_options option value other second ≡ Some given
        → Taken (task ∷ proof ∷ option ∷ value ∷ other ∷ second ∷ []) (texts given)
    both_options_taken option value other second given h k e = elim
        (either (is_nodes option && is_budget other) e) [
          | inl first ↦ nodes_budget_given option value other second given h k first.0 first.1
          | inr rest ↦
              let last = only (is_budget option && is_nodes other) rest.1 in
              budget_nodes_given option value other second given h k last.0 last.1
        ]

    -- the options, as the table has them
    options_taken : (options : List Text) (given : OptionTexts) → option_texts options ≡ Some given
        → Taken (task ∷ proof ∷ options) (texts given)
    options_taken [] given e =
        subst (λ g. Taken (task ∷ proof ∷ []) (texts g)) (same_Some _ given e) none_taken
    options_taken (option ∷ []) given e = cc
    options_taken (option ∷ value ∷ []) given e =
        let all = only (is_argument value) e in
        one_option_taken option value given all.0 all.1
    options_taken (option ∷ value ∷ other ∷ []) given e = cc
    options_taken (option ∷ value ∷ other ∷ second ∷ []) given e =
        let all = only (is_argument value && is_argument second) e in
        let words = both (is_argument value) (is_argument second) all.0 in
        both_options_taken option value other second given words.0 words.1 all.1
    options_taken (option ∷ value ∷ other ∷ second ∷ word ∷ words) given e = cc

    given_taken : (options : List Text) (found : Option OptionTexts) (given : CheckTexts)
        → option_texts options ≡ found
        → option_map texts found ≡ Some given → Taken (task ∷ proof ∷ options) given
    given_taken options None given is e = cc
    given_taken options (Some some) given is e =
        subst (Taken (task ∷ proof ∷ options)) (same_Some (texts some) given e)
        (options_taken options some is)

  -- the command takes the words of a check, and reads in them what the table says
  pub check_taken : (words : List Text) (given : CheckTexts) → check_texts words ≡ Some given
      → Taken words given
  check_taken [] given e = cc
  check_taken (task ∷ []) given e = cc
  check_taken (task ∷ proof ∷ options) given e =
      let all = only (is_argument task && is_argument proof) e in
      let names = both (is_argument task) (is_argument proof) all.0 in
      given_taken task proof names.0 names.1 options (option_texts options) given refl all.1

-- the lists of the table

pub one_list : (name : Text) (words : List Text) → is_some (one_text words) ≡ true
    → (takes (one_app name) words ≡ true) ×
    (first_of (codes "first") (matches_of (one_app name) words) ≡ one_text words)
one_list name [] has = absurd (true≢false (sym has))
one_list name (word ∷ []) has =
    let named = chosen (is_argument word) word has in
    let all = one_taken name word named in
    (all.0, all.1 ∙ sym (ap (λ b. cond b (Some word) None) named))
one_list name (word ∷ second ∷ words) has = absurd (true≢false (sym has))

pub two_list : (name : Text) (words : List Text) → is_some (two_texts words) ≡ true
    → (takes (two_app name) words ≡ true)
    × (pair : Text × Text) × (two_texts words ≡ Some pair)
    × (first_of (codes "first") (matches_of (two_app name) words) ≡ Some pair.0)
    × (first_of (codes "second") (matches_of (two_app name) words) ≡ Some pair.1)
two_list name [] has = absurd (true≢false (sym has))
two_list name (first ∷ []) has = absurd (true≢false (sym has))
two_list name (first ∷ second ∷ []) has =
    let named = chosen (is_argument first && is_argument second) (first, second) has in
    let names = both (is_argument first) (is_argument second) named in
    let all = two_taken name first second names.0 names.1 in
    (all.0, (first, second), ap (λ b. cond b (Some (first, second)) None) named, all.1, all.2)
two_list name (first ∷ second ∷ third ∷ words) has = absurd (true≢false (sym has))

pub check_list : (name : Text) (words : List Text) → is_some (check_texts words) ≡ true
    → (takes (check_app name) words ≡ true)
    × (given : CheckTexts) × (check_texts words ≡ Some given)
    × ReadsWord (matches_of (check_app name) words) given
check_list name words has = go (check_texts words) refl has
  where
    go : (found : Option CheckTexts) → check_texts words ≡ found → is_some found ≡ true
        → (takes (check_app name) words ≡ true)
        × (given : CheckTexts) × (check_texts words ≡ Some given)
        × ReadsWord (matches_of (check_app name) words) given
    go None is none = absurd (true≢false (sym none))
    go (Some given) is some =
        let all = check_taken name words given is in
        (all.0, given, is, all.1)

-- the value of an id is the one that the matches have
pub value_in : (app made : App) (words : List Text) (m : ArgMatches) (id : Text)
    (got : Option (Bor Text)) (text : Option Text)
    → made ≡ app → is_simple app ≡ true → HasMatchesOf made words m
    → option_map (λ s. s.now) got ≡ first_value (found_of m) id
    → first_of id (matches_of app words) ≡ text → option_map (λ s. s.now) got ≡ text
value_in app made words m id got text is simple has asked read =
    let rows = (has (ap is_simple is ∙ simple)).0 in
    asked
    ∙ (first_value-rows (found_of m) id
    ∙ (ap (first_of id) rows
    ∙ (ap (λ a. first_of id (matches_of a words)) is ∙ read)))

pub text_of : (got : Option (Bor Text)) (lent : Bor Text) (text : Text) → got ≡ Some lent
    → option_map (λ s. s.now) got ≡ Some text
    → lent.now ≡ text
text_of got lent text is e = same_Some lent.now text (sym (ap (option_map (λ s. s.now)) is) ∙ e)

pub there : (got : Option (Bor Text)) (text : Text) → option_map (λ s. s.now) got ≡ Some text
    → is_some got ≡ true
there None text e = cc
there (Some lent) text e = refl

pub made : (task proof : Text) (nodes budget : Option Text) (given : CheckTexts) → task ≡ given.task
    → proof ≡ given.proof
    → nodes ≡ given.nodes → budget ≡ given.budget
    → Some (record { task = task; proof = proof; nodes = nodes; budget = budget }) ≡ Some given
made task proof nodes budget given a b d e =
    ap₂ (λ t p. Some (record { task = t; proof = p; nodes = nodes; budget = budget })) a b
    ∙ ap₂ (λ n g. Some (record { task = given.task; proof = given.proof; nodes = n; budget = g })) d
    e
