-- A reply.
use Rattle.std.specs.Prelude.{◌≡◌, ℕ, List}
use Rattle.hv_command.specs.declared.reply.Reply.{Reply}
use Rattle.hv_command.specs.declared.status.Status.{Status}

-- the reply has this status and this text
pub record IsReply (reply : Reply) (status : Status) (text : List ℕ) : Type 0 where
  pub status_is : reply.status ≡ status
  pub text_is : reply.text ≡ text
