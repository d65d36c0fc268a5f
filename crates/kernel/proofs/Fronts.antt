-- What is done on the first records of a sheet, seen on the whole of it.
use Rattle.std.proofs.Common.{◌≡◌, ℕ, ◌+◌, ◌≤◌, List, ◌++◌, length, take, drop, sym, ap, ◌∙◌, append_assoc, arith}
use Rattle.std.proofs.lemmas.List.{take-append-drop, drop-append-le, length-take-le, length-append}
use Rattle.sheet.specs.declared.event.Event.{Event}
use Rattle.sheet.specs.Sheets.{written}
use Rattle.rules.specs.declared.answer.Answer.{Answer}
use Rattle.rules.specs.State.{Station}
use Rattle.rules.specs.Refusals.{Step}
use Rattle.rules.specs.Calls.{Comes}

-- events that are written on the first n records, and leave n records there, are written on the sheet
written_front : (told given left : List Event) (n : ℕ) → n ≤ length given → length left ≡ n → left ≡ written told (take n given) → left ++ drop n given ≡ written told given
written_front told given left n room long w =
    let held : length (take n given) ≡ n = length-take-le n given room in
    let sum : length left ≡ length told + length (drop (length told) (take n given)) = ap length w ∙ length-append told (drop (length told) (take n given)) in
    let fits : length told ≤ length (take n given) = omega (arith, held, long, sum) in
    ap (λ (l : List Event). l ++ drop n given) w
    ∙ append_assoc told (drop (length told) (take n given)) (drop n given)
    ∙ ap (λ (l : List Event). told ++ l) (sym (drop-append-le (length told) (take n given) (drop n given) fits) ∙ ap (drop (length told)) (take-append-drop n given))

-- what comes back from a call on the first n records of a sheet comes back from it on the sheet
pub comes_front : {k : Step} {before after : Station} {given front left : List Event} {a : Answer} (n : ℕ) → n ≤ length given → length left ≡ n → front ≡ take n given →
    Comes k before front after a left → Comes k before given after a (left ++ drop n given)
comes_front {k} {before} {after} {given} {front} {left} {a} n room long first comes =
    record {
      setup = comes.setup;
      state = comes.state;
      answer = comes.answer;
      sheet = written_front k.told given left n room long (comes.sheet ∙ ap (written k.told) first);
    }
