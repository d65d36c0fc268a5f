-- What a book knows of itself.
use Rattle.std.proofs.Common.{◌≡◌, ℕ, ◌+◌, ◌≤◌, Some, sym, subst}
use Rattle.book.specs.declared.sections.Layout.{Layout}
use Rattle.book.specs.declared.sections.TaskRow.{TaskRow}
use Rattle.book.specs.declared.reader.Book.{Book}
use Rattle.book.specs.Verdict.{Framed}
use Rattle.book.specs.Reader.{task_in}
use Rattle.book.proofs.Clean.{framed, task_fits}

-- the sections lie within the bytes of a book, and its scripts within the instructions
pub framed_held : (k : Book) → Framed k.bytes.now k.layout
framed_held k = subst (λ (l : Layout). Framed k.bytes.now l) (sym k.laid) (framed k.bytes.now k.sound)

pub script_held : (k : Book) (t : ℕ) (r : TaskRow) → Some r ≡ task_in k.bytes.now t → r.first + r.length ≤ k.layout.instructions.count
script_held k t r e =
    subst (λ (l : Layout). r.first + r.length ≤ l.instructions.count) (sym k.laid) (task_fits k.bytes.now t r k.sound (sym e)).script
