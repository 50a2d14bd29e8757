-- What a client is told when it enters a lock, and when it commits.
use Rattle.std.specs.Prelude.{◌≡◌, ℕ}
use Rattle.rme_program.specs.declared.note.Receipt.{Receipt}
use Rattle.rme_session_protocol.specs.declared.reply.FencingToken.{FencingToken}

-- The receipt of a commit is that of the token: it has the token's lock and section; and the token told the life of the
-- session's worker.
pub record IsFencedReceipt (life : ℕ) (token : FencingToken) (receipt : Receipt) : Type 0 where
  pub lock : receipt.lock ≡ token.lock
  pub place : receipt.place ≡ token.section
  pub life_is : token.life ≡ life
