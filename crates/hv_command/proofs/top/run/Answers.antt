use Rattle.std.proofs.Common.{subst}
use Rattle.std.specs.Io.KnownBytes.{Appends}
use Rattle.hv_bytes.specs.Devices.{AppendsFront}
use Rattle.hv_replay.proofs.Several.{AnyOf}
use Rattle.hv_command.proofs.Produced.{accepted_told}
use Rattle.hv_command.proofs.SoundAnswers.{sound_told}
use Rattle.hv_command.specs.Words.{job_of}
use Rattle.hv_command.proofs.top.run.Goals as goal

pub returns-in-Ok-send-clause-sound : goal.returns-in-Ok-send-clause-sound
returns-in-Ok-send-clause-sound g c = λ answered.
    sound_told (λ task state. AnyOf c.args.pruners.items
    (λ b. (goal.Pruner-dyn g (b.vtable, b.value)).covers b.value task state))
    (job_of c.args.words.now) (g.S.Shelf.held c.args.shelf.now) c.in-Ok.reply.status
    c.in-Ok.reply.text c.in-Ok.ensures.answer

pub returns-in-Ok-send-clause-answer : goal.returns-in-Ok-send-clause-answer
returns-in-Ok-send-clause-answer g c = λ answered. (
  c.in-Ok.reply.text,
  c.in-Ok.ensures.answer,
  accepted_told (λ task state. AnyOf c.args.pruners.items
      (λ b. (goal.Pruner-dyn g (b.vtable, b.value)).covers b.value task state))
      (job_of c.args.words.now) (g.S.Shelf.held c.args.shelf.now) c.in-Ok.reply.status
      c.in-Ok.reply.text c.in-Ok.ensures.answer,
  subst (λ t. Appends (g.K.Sink.taken c.args.out.now) (g.K.Sink.taken c.send.new.sink) t)
      c.as_bytes.ensures c.in-Ok-send.ensures.sent,
)

pub returns-in-Ok-clause-write_front : goal.returns-in-Ok-clause-write_front
returns-in-Ok-clause-write_front g c = λ failed. (
  c.in-Ok.reply.status,
  c.in-Ok.reply.text,
  c.in-Ok.ensures.answered,
  c.in-Ok.ensures.answer,
  accepted_told (λ task state. AnyOf c.args.pruners.items
      (λ b. (goal.Pruner-dyn g (b.vtable, b.value)).covers b.value task state))
      (job_of c.args.words.now) (g.S.Shelf.held c.args.shelf.now) c.in-Ok.reply.status
      c.in-Ok.reply.text c.in-Ok.ensures.answer,
  sound_told (λ task state. AnyOf c.args.pruners.items
      (λ b. (goal.Pruner-dyn g (b.vtable, b.value)).covers b.value task state))
      (job_of c.args.words.now) (g.S.Shelf.held c.args.shelf.now) c.in-Ok.reply.status
      c.in-Ok.reply.text c.in-Ok.ensures.answer,
  subst (λ t. AppendsFront (g.K.Sink.taken c.args.out.now) (g.K.Sink.taken c.send.new.sink) t)
      c.as_bytes.ensures c.in-Err.ensures.front,
)
