-- `token::piece_at` meets its contract.
-- Assumes nothing.
use Rattle.scanner.specs.Tokens.{pieces, piece_at}
use Rattle.scanner.proofs.token.piece_at.Goals as goal

pub returns : goal.returns
unfolding pieces piece_at
returns c = rw (
  c.up_to.ensures,
  c.up_to-colons.ensures,
  c.up_to-start.ensures,
  c.up_to-range.ensures,
  c.up_to-word.ensures,
  c.up_to-newline.ensures,
  c.up_to-bang.ensures,
  c.up_to-blank.ensures,
  c.up_to-left.ensures,
)
