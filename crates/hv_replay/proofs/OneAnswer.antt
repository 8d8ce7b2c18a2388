-- One answer to the pieces of a log: the log is one, a log and a fault exclude each other, the
-- first fault is one, and one of the two there is.
use Rattle.std.proofs.Common.{◌≡◌, ℕ, ◌+◌, ◌<◌, ◌^◌, ◌∙◌, List, Option, None, Some, [], length}
use Rattle.std.proofs.Common.{◌⊎◌, inl, inr, refl, sym, ap}
use Rattle.hv_bytes.specs.Pieces.{PieceBytes, pieces_of}
use Rattle.hv_grammar.specs.Parsers.{Outcome, long, parsed, refused}
use Rattle.hv_replay.specs.LogFile.{log_fault_at, log_fault_in, log_file}
use Rattle.hv_replay.specs.Logs.{SearchLog}
use Rattle.hv_replay.specs.LogText.{AreLogTextOf, HasLogFault, log_limits}
use Rattle.hv_replay.specs.declared.fault.LogFault.{LogFault}
use Rattle.hv_replay.specs.declared.fault.LogFault.TheVariants as F
use Rattle.hv_replay.specs.declared.fault.LogLimit.TheVariants as W
use Rattle.hv_replay.specs.declared.fault.LogRefusal.{LogRefusal}
use Rattle.hv_replay.proofs.Joined.{read_is_text, text_is_read}

same_value : (a b : SearchLog) (n m : ℕ) (ps qs : List PieceBytes)
    → ◌≡◌ {A = Outcome LogRefusal SearchLog} (parsed a n ps) (parsed b m qs) → a ≡ b
same_value a b n m ps qs e = cc

same_fault : (f g : LogFault) → ◌≡◌ {A = Option LogFault} (Some f) (Some g) → f ≡ g
same_fault f g e = cc

no_fault : (f : LogFault) → ◌≡◌ {A = Option LogFault} None (Some f) → ⊥
no_fault f e = absurd cc

module _ (atoms : ℕ) (small : atoms < 10 ^ 18) (pieces : List PieceBytes) where
  pub one_log : (s t : SearchLog) → AreLogTextOf atoms pieces s → AreLogTextOf atoms pieces t → s ≡
      t
  one_log s t p q =
      same_value s t (length s.entries + 1) (length t.entries + 1) [] []
      (sym (text_is_read atoms pieces s small p) ∙ text_is_read atoms pieces t small q)

  -- a text has no fault
  pub text_or_fault : (log : SearchLog) (fault : LogFault) → AreLogTextOf atoms pieces log
      → HasLogFault atoms pieces fault → ⊥
  text_or_fault log fault p q =
      no_fault fault (sym (ap log_fault_in (text_is_read atoms pieces log small p)) ∙ q)

  pub one_fault : (f g : LogFault) → HasLogFault atoms pieces f → HasLogFault atoms pieces g
      → f ≡ g
  one_fault f g p q = same_fault f g (sym p ∙ q)

-- a file is a text or has a first fault
answer_of : (atoms : ℕ) (bytes : List ℕ) (o : Outcome LogRefusal SearchLog)
    → log_file atoms 0 (pieces_of log_limits bytes) ≡ o
    → ((log : SearchLog) × AreLogTextOf atoms (pieces_of log_limits bytes) log)
    ⊎ ((fault : LogFault) × HasLogFault atoms (pieces_of log_limits bytes) fault)
answer_of atoms bytes (parsed log n rest) e = inl (log, read_is_text atoms bytes log n rest e)
answer_of atoms bytes (refused n b) e = inr (log_fault_at n b, ap log_fault_in e)
answer_of atoms bytes (long n) e = inr (F.Limit n W.Bytes, ap log_fault_in e)

pub answered : (atoms : ℕ) (bytes : List ℕ)
    → ((log : SearchLog) × AreLogTextOf atoms (pieces_of log_limits bytes) log)
    ⊎ ((fault : LogFault) × HasLogFault atoms (pieces_of log_limits bytes) fault)
answered atoms bytes = answer_of atoms bytes (log_file atoms 0 (pieces_of log_limits bytes)) refl
