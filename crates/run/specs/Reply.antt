-- What a line answers in numbers; and what a handler's answer stands for, by its argument's place in the line.
-- Assumes nothing.
use Rattle.std.specs.Prelude.{List, ℕ, length, Ok, Err}
use Rattle.limits.specs.Refusals.{refusal_no}
use Rattle.scan.specs.Scan.{part_of}
use Rattle.actions.specs.Record.{paper_of}
use Rattle.handlers.specs.Done.{Done}
use Rattle.commands.specs.Run.{Out, out_no, out_bytes, Answer}
use Rattle.run.specs.declared.reply.LineReply.{LineReply}

-- an answer in numbers: the refusal or 0, the readings, and how many bytes stand at the front of the store
unfoldable pub reply : Answer → LineReply
reply a = record { refusal = out_no a.out; readings = a.readings; count = length (out_bytes a.out) }

-- a line that ends so after n readings
abbrev pub after : ℕ → Out → Answer
after n o = record { out = o; readings = n }

-- with a handler's answer, its argument from a up to e of the line l
unfoldable pub done_at : List ℕ → Done → ℕ → ℕ → Out
done_at l (Ok x) a e = Out.act (paper_of (part_of l a e) x)
done_at l (Err x) a e = Out.refused (refusal_no x)
