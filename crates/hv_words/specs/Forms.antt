-- The forms of the words after a command's name.
use Rattle.std.specs.Prelude.{◌&&◌, ◌==◌, ℕ, Bool, false, not, List, [], ◌∷◌, Option, Some, None}
use Rattle.std.specs.Prelude.{cond, codes, option_map}
use Rattle.std.specs.Str.{bytes_eq}
use Rattle.hv_words.specs.declared.check.CheckWords.{CheckWords}

-- a word may be an argument or a value: it isn't empty and doesn't begin with a dash
abbrev pub is_argument : List ℕ → Bool
is_argument [] = false
is_argument (byte ∷ bytes) = not (byte == 45)

-- one argument
abbrev pub one_text : List (List ℕ) → Option (List ℕ)
one_text (first ∷ []) = cond (is_argument first) (Some first) None
one_text _ = None

-- two arguments
abbrev pub two_texts : List (List ℕ) → Option (List ℕ × List ℕ)
two_texts (first ∷ second ∷ []) =
    cond (is_argument first && is_argument second) (Some (first, second)) None
two_texts _ = None

-- the values of the options of a check, where they are given
pub record OptionTexts : Type 0 where
  pub nodes : Option (List ℕ)
  pub budget : Option (List ℕ)

abbrev pub is_nodes : List ℕ → Bool
is_nodes option = bytes_eq option (codes "--nodes")

abbrev pub is_budget : List ℕ → Bool
is_budget option = bytes_eq option (codes "--budget")

-- one option with its value
abbrev pub one_option : List ℕ → List ℕ → Option OptionTexts
one_option option value =
    cond (is_nodes option) (Some (record { nodes = Some value; budget = None }))
    (cond (is_budget option) (Some (record { nodes = None; budget = Some value })) None)

-- both options, each with its value, in either order
abbrev pub both_options : List ℕ → List ℕ → List ℕ → List ℕ → Option OptionTexts
both_options option value other second =
    cond (is_nodes option && is_budget other)
    (Some (record { nodes = Some value; budget = Some second }))
    (cond (is_budget option && is_nodes other)
    (Some (record { nodes = Some second; budget = Some value })) None)

-- the options of a check: each at most once, and each as two words
abbrev pub option_texts : List (List ℕ) → Option OptionTexts
option_texts [] = Some (record { nodes = None; budget = None })
option_texts (option ∷ value ∷ []) = cond (is_argument value) (one_option option value) None
option_texts (option ∷ value ∷ other ∷ second ∷ []) =
    cond (is_argument value && is_argument second) (both_options option value other second) None
option_texts _ = None

-- the words of a check: its arguments, and what its options say
pub record CheckTexts : Type 0 where
  pub task : List ℕ
  pub proof : List ℕ
  pub nodes : Option (List ℕ)
  pub budget : Option (List ℕ)

abbrev pub with_arguments : List ℕ → List ℕ → OptionTexts → CheckTexts
with_arguments task proof options =
    record { task = task; proof = proof; nodes = options.nodes; budget = options.budget }

-- a check: `TASK PROOF`, and then its options
abbrev pub check_texts : List (List ℕ) → Option CheckTexts
check_texts (task ∷ proof ∷ options) =
    cond (is_argument task && is_argument proof)
    (option_map (with_arguments task proof) (option_texts options)) None
check_texts _ = None

-- the words of a check, each as its bytes
abbrev pub texts_of : CheckWords → CheckTexts
texts_of words = record {
  task = words.task.now;
  proof = words.proof.now;
  nodes = option_map (λ s. s.now) words.nodes;
  budget = option_map (λ s. s.now) words.budget;
}
