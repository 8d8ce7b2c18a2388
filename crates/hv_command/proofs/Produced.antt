-- Proofs that are written: they are judged to show that the task has no plan, and each is one.
use Rattle.std.proofs.Common.{◌≡◌, ◌↔◌, IsTrue, IfSome, ◌<◌, ◌≤◌, ◌∙◌, ℕ, Bool, List, Option, None}
use Rattle.std.proofs.Common.{Some, ap, arith, inl, inr, length, reverse, subst, sym}
use Rattle.std.specs.Option.{is_some}
use Rattle.hv_bytes.specs.Files.{Names, bytes_of}
use Rattle.hv_bytes.specs.Pieces.{pieces_of}
use Rattle.hv_bytes.specs.Standard.{most_file_bytes, standard}
use Rattle.hv_task.specs.Plan.{IsUnsolvable}
use Rattle.hv_task.specs.Strips.{Strips, IsTask, atoms, start_state}
use Rattle.hv_task_text.proofs.OneAnswer.{one_task}
use Rattle.hv_task_text.specs.TaskText.{TaskText}
use Rattle.hv_bound.specs.Bounded.{bounded_task}
use Rattle.hv_fronts.proofs.BoundTexts.{read_back}
use Rattle.hv_fronts.proofs.SasTexts.{sas_read_back}
use Rattle.hv_sas.specs.Answer.{sas_in}
use Rattle.hv_sas.specs.Made.{strips_of}
use Rattle.hv_sas.specs.declared.sas_task.Sas.{Sas}
use Rattle.hv_command.proofs.Computed.{one_value_of}
use Rattle.hv_lines.specs.Drafts.{DraftState, IsGoodTable, draft_setting}
use Rattle.hv_lines.specs.Judged.{Concludes, JudgedBytes, Unsolvable}
use Rattle.hv_lines.specs.Spelling.{proof_text}
use Rattle.hv_lines.specs.declared.line.Line.{Line}
use Rattle.hv_lines.proofs.Drafting.{good_of}
use Rattle.hv_proof_text.proofs.ReadBack.{draft_judged, draft_small}
use Rattle.hv_reach.specs.Written.{IsPairsProof, IsRelaxedProof, PairsExclude, RelaxedExcludes}
use Rattle.hv_reach.proofs.Proofs.{pairs_end, pairs_good, pairs_once, pairs_size, relaxed_ends}
use Rattle.hv_reach.proofs.Proofs.{relaxed_good, relaxed_once, relaxed_size}
use Rattle.hv_replay.specs.Logs.{SearchLog}
use Rattle.hv_trap.specs.Trap.{IsSatisfied}
use Rattle.hv_trap.specs.Written.{IsTrapProof}
use Rattle.hv_trap.proofs.Proofs.{trap_proof_ends, trap_proof_good, trap_proof_once}
use Rattle.hv_trap.proofs.Proofs.{trap_proof_size}
use Rattle.hv_checker.proofs.GoodLines.{good_concludes}
use Rattle.hv_command.specs.Answer.{Answer, AnswersLog, AnswersProduce, AnswersTold, Covered}
use Rattle.hv_command.specs.Answer.{Excludes, HasTooMany, IsAccepted, IsAcceptedTold, IsProofBy}
use Rattle.hv_command.specs.Answer.{IsWritten}
use Rattle.hv_command.specs.declared.job.Job.{Job}
use Rattle.hv_command.specs.declared.job.Job.TheVariants as J
use Rattle.hv_command.specs.declared.job.Kind.{Kind}
use Rattle.hv_command.specs.declared.job.Kind.TheVariants as K
use Rattle.hv_command.specs.declared.status.Status.{Status}
use Rattle.hv_command.specs.declared.status.Status.TheVariants as S
use Rattle.hv_command.proofs.Renewed.{upgraded}
use Rattle.hv_task_text.proofs.TaskTexts.{is_task}

module _ (task : Strips) (is : IsTask task) where
  good_proof : (kind : Kind) (lines : List Line) → (HasTooMany kind task → ⊥) → Excludes kind task
      → IsProofBy kind task lines
      → IsGoodTable task lines
  good_proof K.Relaxed lines few excludes proof = relaxed_good task lines is excludes proof
  good_proof K.Pairs lines few excludes proof = pairs_good task lines is
      (few_pairs (atoms task) few) excludes proof
    where
      few_pairs : (n : ℕ) → (1024 < n → ⊥) → n ≤ 1024
      few_pairs n none = omega (arith, none)
  good_proof K.Trap lines few excludes proof = trap_proof_good task lines
      (few_trap (atoms task) few) excludes proof
    where
      few_trap : (n : ℕ) → (64 < n → ⊥) → n ≤ 64
      few_trap n none = omega (arith, none)

  proof_ends : (kind : Kind) (lines : List Line) → (HasTooMany kind task → ⊥) → Excludes kind task
      → IsProofBy kind task lines
      → Concludes lines
  proof_ends K.Relaxed lines few excludes proof = relaxed_ends task lines is excludes proof
  proof_ends K.Pairs lines few excludes proof = pairs_end task lines is (few_pairs (atoms task) few)
      excludes proof
    where
      few_pairs : (n : ℕ) → (1024 < n → ⊥) → n ≤ 1024
      few_pairs n none = omega (arith, none)
  proof_ends K.Trap lines few excludes proof = trap_proof_ends task lines proof

  proof_size : (kind : Kind) (lines : List Line) → IsProofBy kind task lines → length lines ≤ 17
  proof_size K.Relaxed lines proof = omega (arith, relaxed_size task lines proof)
  proof_size K.Pairs lines proof = omega (arith, pairs_size task lines proof)
  proof_size K.Trap lines proof = omega (arith, trap_proof_size task lines proof)

  judged_proof : (kind : Kind) (lines : List Line) → (HasTooMany kind task → ⊥) → Excludes kind task
      → IsProofBy kind task lines
      → JudgedBytes (draft_setting task) standard (proof_text (reverse lines)) Unsolvable
  judged_proof kind lines few excludes proof =
      let good = good_proof kind lines few excludes proof in
      let size = proof_size kind lines proof in
      draft_judged task lines good (proof_ends kind lines few excludes proof)
      (draft_small task lines good (omega (arith, size)))

  pub unsolvable_proof : (kind : Kind) (lines : List Line) → (HasTooMany kind task → ⊥)
      → Excludes kind task → IsProofBy kind task lines
      → IsUnsolvable task
  unsolvable_proof kind lines few excludes proof =
      good_concludes (draft_setting task) lines
      (good_of task lines (good_proof kind lines few excludes proof))
      (proof_ends kind lines few excludes proof)

  -- what is written is judged so
  pub judged_answer : (kind : Kind) (status : Status) (text : List ℕ)
      → AnswersProduce kind task status text → status ≡ S.Done
      → JudgedBytes (draft_setting task) standard text Unsolvable
  judged_answer kind status text (inl (many, refused, said)) done = absurd (cc)
  judged_answer kind status text (inr (few, inl (excludes, is_done, (lines, proof, said)))) done =
      subst (λ t. JudgedBytes (draft_setting task) standard t Unsolvable) (sym said)
      (judged_proof kind lines few excludes proof)
  judged_answer kind status text (inr (few, inr (none, refused, said))) done = absurd (cc)

  -- and then there is no plan
  pub answer_unsolvable : (kind : Kind) (status : Status) (text : List ℕ)
      → AnswersProduce kind task status text → status ≡ S.Done
      → IsUnsolvable task
  answer_unsolvable kind status text (inl (many, refused, said)) done = absurd (cc)
  answer_unsolvable kind status text (inr (few, inl (excludes, is_done, (lines, proof, said)))) done
      =
      unsolvable_proof kind lines few excludes proof
  answer_unsolvable kind status text (inr (few, inr (none, refused, said))) done = absurd (cc)

-- the proof of a kind is one
once : (kind : Kind) (task : Strips) (x y : List Line) → IsProofBy kind task x
    → IsProofBy kind task y → x ≡ y
once K.Relaxed task x y p q = relaxed_once task x y p q
once K.Pairs task x y p q = pairs_once task x y p q
once K.Trap task x y p q = trap_proof_once task x y p q

one_written : (kind : Kind) (task : Strips) (s u : Status) (t v : List ℕ) → IsWritten kind task s t
    → IsWritten kind task u v
    → (s ≡ u) × (t ≡ v)
one_written kind task s u t v (inl (excludes, s_is, (x, p, t_is))) (inl (also, u_is, (y, q, v_is)))
    = (
      s_is ∙ sym u_is,
      t_is ∙ (ap (λ ls. proof_text (reverse ls)) (once kind task x y p q)
          ∙ sym v_is),
    )
one_written kind task s u t v (inl (excludes, s_is, (x, p, t_is))) (inr (none, u_is, v_is)) = absurd
    (none excludes)
one_written kind task s u t v (inr (none, s_is, t_is)) (inl (excludes, u_is, (y, q, v_is))) = absurd
    (none excludes)
one_written kind task s u t v (inr (none, s_is, t_is)) (inr (also, u_is, v_is)) =
    (s_is ∙ sym u_is, t_is ∙ sym v_is)

pub one_produced : (kind : Kind) (task : Strips) (s u : Status) (t v : List ℕ)
    → AnswersProduce kind task s t
    → AnswersProduce kind task u v → (s ≡ u) × (t ≡ v)
one_produced kind task s u t v (inl (many, s_is, t_is)) (inl (also, u_is, v_is)) =
    (s_is ∙ sym u_is, t_is ∙ sym v_is)
one_produced kind task s u t v (inl (many, s_is, t_is)) (inr (few, x)) = absurd (few many)
one_produced kind task s u t v (inr (few, x)) (inl (many, u_is, v_is)) = absurd (few many)
one_produced kind task s u t v (inr (few, x)) (inr (also, y)) = one_written kind task s u t v x y

-- what replays a log is judged so, where it fits into a file, and then there is no plan
module _ (covered : List Bool → Type 0) (task : Strips) (log : SearchLog) (status : Status)
    (text : List ℕ) where
  pub judged_replay : AnswersLog (λ _. covered) task log status text → status ≡ S.Done
      → length text ≤ most_file_bytes
      → JudgedBytes (draft_setting task) standard text Unsolvable
  judged_replay (inl (closed, is_done, (lines, proof, said))) done small =
      subst (λ t. JudgedBytes (draft_setting task) standard t Unsolvable) (sym said)
      (draft_judged task lines proof.good proof.concludes
      (subst (λ t. length t ≤ most_file_bytes) said small))
  judged_replay (inr (hole, first, refused, said)) done small = absurd (cc)

  pub replay_unsolvable : AnswersLog (λ _. covered) task log status text → status ≡ S.Done
      → IsUnsolvable task
  replay_unsolvable (inl (closed, is_done, (lines, proof, said))) done =
      good_concludes (draft_setting task) lines (good_of task lines proof.good) proof.concludes
  replay_unsolvable (inr (hole, first, refused, said)) done = absurd (cc)

-- an answer that is a proof is accepted
pub accepted : (covered : Covered) (job : Option Job) (held : Names) (status : Status)
    (text : List ℕ) → Answer covered job held status text
    → IsAccepted job held status text
accepted covered None held status text answers = tt
accepted covered (Some (J.Check task proof nodes budget)) held status text answers = tt
accepted covered (Some (J.Explain task proof nodes budget)) held status text answers = tt
accepted covered (Some (J.Upgrade task proof nodes budget)) held status text answers =
    upgraded task proof nodes budget held status text answers
accepted covered (Some (J.Produce kind name)) held status text (inl (fault, first, bad, said)) = λ
    done task is_text. absurd (cc)
accepted covered (Some (J.Produce kind name)) held status text (inr (other, other_text, answers)) =
    λ done task is_text.
    subst (λ t. JudgedBytes (draft_setting t) standard text Unsolvable)
    (one_task (pieces_of standard (bytes_of held name)) other task other_text is_text)
    (judged_answer other (is_task (pieces_of standard (bytes_of held name)) other other_text) kind
    status text answers done)
accepted covered (Some (J.Replay name log_name)) held status text (inl (fault, first, bad, said)) =
    λ done small task is_text. absurd (cc)
accepted covered (Some (J.Replay name log_name)) held status text
    (inr (other, other_text, inl (fault, first, bad, said))) =
    λ done small task is_text. absurd (cc)
accepted covered (Some (J.Replay name log_name)) held status text
    (inr (other, other_text, inr (log, log_text, answers))) =
    λ done small task is_text.
    subst (λ t. JudgedBytes (draft_setting t) standard text Unsolvable)
    (one_task (pieces_of standard (bytes_of held name)) other task other_text is_text)
    (judged_replay (covered other) other log status text answers done small)
accepted covered (Some (J.Sample rooms)) held status text answers = tt
accepted covered (Some (J.Sas name)) held status text (inl (fault, first, bad, said)) =
    λ done small sas read. absurd (cc)
accepted covered (Some (J.Sas name)) held status text (inr (other, other_read, (is_done, said))) =
    λ done small sas read.
    subst (λ (x : Sas). TaskText standard text (strips_of x))
    (one_value_of (sas_in (pieces_of standard (bytes_of held name))) other sas other_read read)
    (sas_read_back (bytes_of held name) text other
    (record { read = other_read; written = said; short = small }))
accepted covered (Some (J.Bound name most)) held status text (inl (fault, first, bad, said)) =
    λ done small task is_text. absurd (cc)
accepted covered (Some (J.Bound name most)) held status text
    (inr (other, other_text, inl (large, refused, said))) =
    λ done small task is_text. absurd (cc)
accepted covered (Some (J.Bound name most)) held status text
    (inr (other, other_text, inr (fits, is_done, said))) =
    λ done small task is_text.
    subst (λ (t : Strips). TaskText standard text (bounded_task t most))
    (one_task (pieces_of standard (bytes_of held name)) other task other_text is_text)
    (read_back (bytes_of held name) text other most
    (record { read = other_text; fits = fits; written = said; short = small }))
accepted covered (Some (J.Plan task plan)) held status text answers = tt

pub accepted_told : (covered : Covered) (job : Option Job) (held : Option Names) (status : Status)
    (text : List ℕ)
    → AnswersTold covered job held status text → IsAcceptedTold job held status text
accepted_told covered job None status text answers = tt
accepted_told covered job (Some held) status text answers = accepted covered job held status text
    answers

module _ (task : Strips) (lines : List Line) (status : Status) (text : List ℕ)
    (is_done : status ≡ S.Done)
    (said : text ≡ proof_text (reverse lines)) where
  written_by : (kind : Kind) → (HasTooMany kind task → ⊥) → Excludes kind task
      → IsProofBy kind task lines
      → AnswersProduce kind task status text
  written_by kind few excludes proof = inr (few, inl (excludes, is_done, (lines, proof, said)))

module _ (task : Strips) (found : Option DraftState) (draft : DraftState) (is : found ≡ Some draft)
    (status : Status) (text : List ℕ)
    (reply : (status ≡ S.Done) × (text ≡ proof_text (reverse draft.lines))) where
  pub relaxed_written : (IsTrue (is_some found) ↔ RelaxedExcludes task)
      → IfSome found (λ d. IsRelaxedProof task d.lines)
      → AnswersProduce K.Relaxed task status text
  relaxed_written some proof =
      written_by task draft.lines status text reply.0 reply.1 K.Relaxed (λ many. many)
      (some.0 (ap is_some is)) (subst (λ f. IfSome f (λ d. IsRelaxedProof task d.lines)) is proof)

  pub pairs_written : atoms task ≤ 1024 → (IsTrue (is_some found) ↔ PairsExclude task)
      → IfSome found (λ d. IsPairsProof task d.lines)
      → AnswersProduce K.Pairs task status text
  pairs_written few some proof =
      written_by task draft.lines status text reply.0 reply.1 K.Pairs
      (λ many. omega (arith, few, many))
      (some.0 (ap is_some is)) (subst (λ f. IfSome f (λ d. IsPairsProof task d.lines)) is proof)

  pub trap_written : atoms task ≤ 64 → (IsTrue (is_some found)
      ↔ IsSatisfied task (start_state task)) → IfSome found (λ d. IsTrapProof task d.lines)
      → AnswersProduce K.Trap task status text
  trap_written few some proof =
      written_by task draft.lines status text reply.0 reply.1 K.Trap
      (λ many. omega (arith, few, many))
      (some.0 (ap is_some is)) (subst (λ f. IfSome f (λ d. IsTrapProof task d.lines)) is proof)
