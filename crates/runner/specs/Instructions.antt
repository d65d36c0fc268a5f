-- What an instruction row says: a letter, and the fields that this letter uses.
use Rattle.std.specs.Prelude.{ℕ, List, Option, slice_index}
use Rattle.std.specs.Option.{option_map}
use Rattle.book.specs.declared.letters.Letter.{Letter}
use Rattle.book.specs.declared.letters.Letter.TheVariants.{Rleas, Queue, Abort, Delay, Timer, Ctime, Chap, Sfact, Gfact, Susp, Rsum, Wake, Cwake, Stime, Exit, Jump}
use Rattle.book.specs.Numbers.{be32}
use Rattle.book.specs.Letters.{letter_of}
use Rattle.rules.specs.declared.call.Macro.TheVariants.{Rleas as RleasOf, Queue as QueueOf, Abort as AbortOf, Delay as DelayOf, Timer as TimerOf, Ctime as CtimeOf, Chap as ChapOf, Sfact as SfactOf, Gfact as GfactOf, Susp as SuspOf, Rsum as RsumOf, Wake as WakeOf, Cwake as CwakeOf, Stime as StimeOf, Exit as ExitOf}
use Rattle.runner.specs.declared.instruction.Instruction.{Instruction}
use Rattle.runner.specs.declared.instruction.Instruction.TheVariants.{Macro, Jump as JumpTo}
use Rattle.runner.specs.declared.instruction.Fields.{Fields}

-- the fields of a row of twelve bytes: letter, task, x, 0, t, cycle
abbrev pub fields_of : List ℕ → Fields
fields_of row = record { task = slice_index row 1; x = slice_index row 2; t = be32 row 4; cycle = be32 row 8 }

-- what each letter says, with the fields that it uses; the others are not looked at
abbrev pub meant : Letter → Fields → Instruction
meant Rleas f = Macro (RleasOf f.task)
meant Queue f = Macro (QueueOf f.task f.x)
meant Abort f = Macro (AbortOf f.task)
meant Delay f = Macro (DelayOf f.t)
meant Timer f = Macro (TimerOf f.task f.t f.cycle f.x)
meant Ctime f = Macro (CtimeOf f.task f.x)
meant Chap f = Macro (ChapOf f.task f.x)
meant Sfact f = Macro (SfactOf f.task f.x)
meant Gfact f = Macro GfactOf
meant Susp f = Macro (SuspOf f.task)
meant Rsum f = Macro (RsumOf f.task)
meant Wake f = Macro (WakeOf f.task f.x f.t f.cycle)
meant Cwake f = Macro (CwakeOf f.task f.x)
meant Stime f = Macro (StimeOf f.t)
meant Exit f = Macro ExitOf
meant Jump f = JumpTo f.x f.t

-- what a row says, or nothing where its first byte is no letter
unfoldable pub decoded : List ℕ → Option Instruction
decoded row = option_map (λ (l : Letter). meant l (fields_of row)) (letter_of (slice_index row 0))
