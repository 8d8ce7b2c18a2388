-- What a text begins with stays while it is written on.
use Rattle.std.proofs.Common.{◌≡◌, ◌≤◌, ℕ, ◌∙◌, List, [], length, take, sym, ap, arith, length-append}
use Rattle.std.proofs.Math.Seq.{take-append_seam}
use Rattle.std.proofs.lemmas.List.{append-nil}
use Rattle.hv_proof_text.specs.Working.Writing.{HasFront, KeepsFronts}

-- the old text can be had back
module _ (old new : List ℕ) (keeps : KeepsFronts old new) where
  whole : HasFront old new
  whole = keeps old (record { rest = []; same = sym (append-nil old) })

  pub kept_length : length old ≤ length new
  kept_length = omega (arith, ap length whole.same, length-append old whole.rest)

  pub kept_front : take (length old) new ≡ old
  kept_front = ap (take (length old)) whole.same ∙ take-append_seam old whole.rest
