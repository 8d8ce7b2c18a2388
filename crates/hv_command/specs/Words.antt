-- The words of the program, and the job that they name.
use Rattle.std.specs.Prelude.{◌≡◌, ◌<◌, ◌≤◌, ◌&&◌, ◌⊎◌, ℕ, List, [], ◌∷◌, Option, Some, None, cond}
use Rattle.std.specs.Prelude.{codes, decimal, nat_le, option_and_then, option_map}
use Rattle.std.specs.Str.{bytes_eq}
use Rattle.std.specs.Str.Parse.{digits_value}
use Rattle.hv_lines.specs.Drafts.{default_budget}
use Rattle.hv_lines.specs.Setting.{most_budget}
use Rattle.hv_words.specs.Forms.{CheckTexts, check_texts, one_text, two_texts}
use Rattle.hv_command.specs.declared.job.Job.{Job}
use Rattle.hv_command.specs.declared.job.Kind.{Kind}
use Rattle.hv_command.specs.declared.job.Kind.TheVariants as K
use Rattle.hv_command.specs.declared.job.Report.{Report}
use Rattle.hv_command.specs.declared.job.Report.TheVariants as P
use Rattle.hv_command.specs.declared.job.Job.TheVariants as J

-- the number is within these bounds
abbrev pub IsBetween : ℕ → ℕ → ℕ → Type 0
IsBetween least most number = (least ≤ number) × (number ≤ most)

-- the number of a word, where the word spells it as a decimal and it is within these bounds
abbrev pub as_number : ℕ → ℕ → List ℕ → ℕ → Option ℕ
as_number least most word number =
    cond (bytes_eq word (decimal number) && (nat_le least number && nat_le number most))
    (Some number) None

-- the number that a word spells as a decimal, where it is within these bounds
abbrev pub number_of : ℕ → ℕ → List ℕ → Option ℕ
number_of least most word = as_number least most word (digits_value 10 word)

-- the budget that a word names: a decimal from 1 to 16,777,216
abbrev pub budget_of : List ℕ → Option ℕ
budget_of word = number_of 1 most_budget word

-- the budget that is given, or the one that is meant where none is
abbrev pub given_budget : Option (List ℕ) → Option ℕ
given_budget None = Some default_budget
given_budget (Some word) = budget_of word

-- the check of a proof after which this is told
abbrev pub checking : Report → List ℕ → List ℕ → Option (List ℕ) → ℕ → Job
checking P.Verdict task proof nodes budget = J.Check task proof nodes budget
checking P.Explanation task proof nodes budget = J.Explain task proof nodes budget
checking P.Renewal task proof nodes budget = J.Upgrade task proof nodes budget

-- the check that these words name, where they name a budget
abbrev pub check_with : Report → CheckTexts → Option ℕ → Option Job
check_with report texts None = None
check_with report texts (Some budget) =
    Some (checking report texts.task texts.proof texts.nodes budget)

-- a check: `TASK PROOF`, and then at most `--nodes FILE` and `--budget N`, in either order
abbrev pub check_of : Report → List (List ℕ) → Option Job
check_of report words =
    option_and_then (λ texts. check_with report texts (given_budget texts.budget))
    (check_texts words)

-- the kind of proof that a word names
abbrev pub kind_of : List ℕ → Option Kind
kind_of word =
    cond (bytes_eq word (codes "relaxed")) (Some K.Relaxed)
    (cond (bytes_eq word (codes "pairs")) (Some K.Pairs)
    (cond (bytes_eq word (codes "trap")) (Some K.Trap) None))

-- a proof of this kind, where there is such a kind
abbrev pub produce_with : Option Kind → List ℕ → Option Job
produce_with None task = None
produce_with (Some kind) task = Some (J.Produce kind task)

-- a proof: `KIND TASK`
abbrev pub produce_of : List (List ℕ) → Option Job
produce_of words =
    option_and_then (λ pair. produce_with (kind_of pair.0) pair.1) (two_texts words)

-- a replay: `TASK LOG`
abbrev pub replay_of : List (List ℕ) → Option Job
replay_of words = option_map (λ pair. J.Replay pair.0 pair.1) (two_texts words)

-- the greatest number of rooms of a sample
abbrev pub most_rooms : ℕ
most_rooms = 64

-- how many rooms a sample may have
abbrev pub IsRooms : ℕ → Type 0
IsRooms rooms = IsBetween 3 most_rooms rooms

-- a sample of so many rooms, where there is such a number
abbrev pub sample_with : Option ℕ → Option Job
sample_with None = None
sample_with (Some rooms) = Some (J.Sample rooms)

-- a sample: a decimal from 3 to 64
abbrev pub sample_of : List (List ℕ) → Option Job
sample_of words =
    option_and_then (λ word. sample_with (number_of 3 most_rooms word)) (one_text words)

-- the task of a translator's file: `FILE`
abbrev pub sas_of : List (List ℕ) → Option Job
sas_of words = option_map (λ file. J.Sas file) (one_text words)

-- the greatest bound on the cost of a plan
abbrev pub most_bound : ℕ
most_bound = 65534

-- a bound on the cost of the task's plans, where there is such a number
abbrev pub bound_with : List ℕ → Option ℕ → Option Job
bound_with task None = None
bound_with task (Some most) = Some (J.Bound task most)

-- a bound: `TASK`, and a decimal of at most 65,534
abbrev pub cost_bound_of : List (List ℕ) → Option Job
cost_bound_of words =
    option_and_then (λ pair. bound_with pair.0 (number_of 0 most_bound pair.1)) (two_texts words)

-- a plan: `TASK PLAN`
abbrev pub plan_of : List (List ℕ) → Option Job
plan_of words = option_map (λ pair. J.Plan pair.0 pair.1) (two_texts words)

-- the words are a command and what it takes
abbrev pub job_of : List (List ℕ) → Option Job
job_of [] = None
job_of (command ∷ words) =
    cond (bytes_eq command (codes "check")) (check_of P.Verdict words)
    (cond (bytes_eq command (codes "explain")) (check_of P.Explanation words)
    (cond (bytes_eq command (codes "upgrade")) (check_of P.Renewal words)
    (cond (bytes_eq command (codes "produce")) (produce_of words)
    (cond (bytes_eq command (codes "replay")) (replay_of words)
    (cond (bytes_eq command (codes "sample")) (sample_of words)
    (cond (bytes_eq command (codes "sas")) (sas_of words)
    (cond (bytes_eq command (codes "bound")) (cost_bound_of words)
    (cond (bytes_eq command (codes "plan")) (plan_of words) None))))))))

-- the job may read the file of this name
abbrev pub HasName : Option Job → List ℕ → Type 0
HasName None name = ⊥
HasName (Some (J.Check task proof nodes budget)) name =
    (name ≡ task) ⊎ ((name ≡ proof) ⊎ (nodes ≡ Some name))
HasName (Some (J.Explain task proof nodes budget)) name =
    (name ≡ task) ⊎ ((name ≡ proof) ⊎ (nodes ≡ Some name))
HasName (Some (J.Upgrade task proof nodes budget)) name =
    (name ≡ task) ⊎ ((name ≡ proof) ⊎ (nodes ≡ Some name))
HasName (Some (J.Produce kind task)) name = name ≡ task
HasName (Some (J.Replay task log)) name = (name ≡ task) ⊎ (name ≡ log)
HasName (Some (J.Sample rooms)) name = ⊥
HasName (Some (J.Sas file)) name = name ≡ file
HasName (Some (J.Bound task most)) name = name ≡ task
HasName (Some (J.Plan task plan)) name = (name ≡ task) ⊎ (name ≡ plan)

-- a query may cost so much
abbrev pub IsBudget : ℕ → Type 0
IsBudget budget = (0 < budget) × (budget ≤ most_budget)

-- the job's number is within its bounds, where it has one
abbrev pub IsBounded : Job → Type 0
IsBounded (J.Check task proof nodes budget) = IsBudget budget
IsBounded (J.Explain task proof nodes budget) = IsBudget budget
IsBounded (J.Upgrade task proof nodes budget) = IsBudget budget
IsBounded (J.Produce kind task) = Unit {0}
IsBounded (J.Replay task log) = Unit {0}
IsBounded (J.Sample rooms) = IsRooms rooms
IsBounded (J.Sas file) = Unit {0}
IsBounded (J.Bound task most) = most ≤ most_bound
IsBounded (J.Plan task plan) = Unit {0}
