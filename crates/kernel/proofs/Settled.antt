-- From what a call did to what comes back from it.
use Rattle.std.proofs.Common.{◌≡◌, ℕ, ◌+◌, ◌≤◌, Bool, true, false, cond, not, ltb, List, [], ◌∷◌, ◌++◌, length, filter, None, Option, sym, refl, ap, ◌∙◌, subst, arith}
use Rattle.std.proofs.lemmas.Bool.{both_ways, cond-true, cond-false, le-ltb}
use Rattle.std.proofs.lemmas.Bool.Decides.{nat_tests}
use Rattle.std.proofs.lemmas.List.{append-nil, length-append}
use Rattle.sheet.specs.declared.event.Event.{Event}
use Rattle.sheet.specs.Sheets.{written}
use Rattle.rules.specs.declared.answer.Code.{Code}
use Rattle.roll.specs.Model.{Model, first_in}
use Rattle.rules.specs.declared.answer.Code.TheVariants.{Done, ShortSheet, CoilRange}
use Rattle.rules.specs.declared.answer.Answer.{Answer}
use Rattle.rules.specs.declared.call.Call.{Call}
use Rattle.rules.specs.declared.call.Call.TheVariants.{Macro as Issued, Tick, Coil}
use Rattle.rules.specs.State.{Setup, State, Station, numbered, running}
use Rattle.rules.specs.Fields.{task_field}
use Rattle.rules.specs.Effects.{Effect, starting}
use Rattle.rules.specs.Refusals.{Step, turn, settled, refused}
use Rattle.rules.specs.Calls.{answered, called, Comes, Performed}
use Rattle.kernel.specs.declared.effect.Effect.{Effect as Made}
use Rattle.kernel.specs.Obeys.{Did, Stays, start_checks, worked, coil_out_of_range}

-- the effect e was done, and then the turn was told behind its events
pub settled_comes : {before mid after : Station} {given sheet left : List Event} {made : Made} {a : Answer} {code : Code} {e : Effect} (was : Option ℕ) →
    Did code e before given mid made sheet → numbered was ≡ running before.state.tasks → after ≡ mid →
    a ≡ record { code = made.answer.code; told = made.answer.told + length (turn (numbered was) made.over (running mid.state.tasks)); factor = made.answer.factor } →
    ((front held : List Event) → made.answer.told ≡ length front → sheet ≡ written front held → left ≡ written (front ++ turn (numbered was) made.over (running mid.state.tasks)) held) →
    Comes (settled before.state code e) before given after a left
settled_comes {before} {mid} {after} {given} {sheet} {left} {made} {a} {code} {e} was did first same answer told =
    let t : List Event = turn (numbered was) made.over (running mid.state.tasks) in
    let t' : List Event = turn (running before.state.tasks) e.over (running e.state.tasks) in
    let turned : t ≡ t' =
    ap (λ (w : ℕ). turn w made.over (running mid.state.tasks)) first
    ∙ ap (λ (o : Bool). turn (running before.state.tasks) o (running mid.state.tasks)) did.over
    ∙ ap (λ (s : State). turn (running before.state.tasks) e.over (running s.tasks)) did.state in
    let so_far : made.answer.told ≡ length e.told = ap (λ (x : Answer). x.told) did.answer in
    let count : made.answer.told + length t ≡ length (e.told ++ t') =
    ap (λ (k : ℕ). k + length t) so_far ∙ ap (λ (l : List Event). length e.told + length l) turned ∙ sym (length-append e.told t') in
    record {
      setup = ap (λ (s : Station). s.setup) same ∙ did.setup;
      state = ap (λ (s : Station). s.state) same ∙ did.state;
      answer = answer
          ∙ ap (λ (k : ℕ). let r : Answer = record { code = made.answer.code; told = k; factor = made.answer.factor } in r) count
          ∙ ap (λ (x : Answer). let r : Answer = record { code = x.code; told = length (e.told ++ t'); factor = x.factor } in r) did.answer;
      sheet = told e.told given so_far did.sheet ∙ ap (λ (l : List Event). written (e.told ++ l) given) turned;
    }

no_turn : (n : ℕ) → turn n false n ≡ []
no_turn n = grind (arith, nat_tests)

-- the effect e was done, and no other task can have the processor, so that there is no turn to tell
pub kept_comes : {before mid : Station} {given sheet : List Event} {made : Made} {code : Code} {e : Effect} →
    Did code e before given mid made sheet → made.turning ≡ false → Comes (settled before.state code e) before given mid made.answer sheet
kept_comes {before} {mid} {given} {sheet} {made} {code} {e} did closed =
    let stays : Stays false e before = subst (λ (b : Bool). Stays b e before) closed did.stays in
    let t : List Event = turn (running before.state.tasks) e.over (running e.state.tasks) in
    let none : t ≡ [] =
    ap (λ (o : Bool). turn (running before.state.tasks) o (running e.state.tasks)) stays.0
    ∙ ap (λ (m : Model). turn (running before.state.tasks) false (numbered (first_in m))) stays.1
    ∙ no_turn (running before.state.tasks) in
    let all : e.told ≡ e.told ++ t = sym (ap (λ (l : List Event). e.told ++ l) none ∙ append-nil e.told) in
    record {
      setup = did.setup;
      state = did.state;
      answer = did.answer ∙ ap (λ (l : List Event). let r : Answer = record { code = code; told = length l; factor = e.factor } in r) all;
      sheet = did.sheet ∙ ap (λ (l : List Event). written l given) all;
    }

-- a sheet that is long enough is no cause to turn a call down
past_sheet : (b : Setup) (s : State) (c : Call) (room : ℕ) → 100 ≤ room → worked b s c ≡ called b s c room
past_sheet b s (Issued m) room long = sym (cond-false (ltb room 100) (refused s ShortSheet) (worked b s (Issued m)) (le-ltb room 100 long))
past_sheet b s Tick room long = sym (cond-false (ltb room 100) (refused s ShortSheet) (worked b s Tick) (le-ltb room 100 long))
past_sheet b s (Coil t) room long = sym (cond-false (ltb room 100) (refused s ShortSheet) (worked b s (Coil t)) (le-ltb room 100 long))

-- what comes back from a call with a sheet that is long enough, on a station that is the same
pub performed : {before before' after : Station} {given left : List Event} {a : Answer} {k : Step} (c : Call) → before ≡ before' → 100 ≤ length given →
    k ≡ worked before.setup before.state c → Comes k before given after a left → Performed before' c given after a left
performed {before} {before'} {after} {given} {left} {a} {k} c same long step comes =
    subst (λ (x : Station). Performed x c given after a left) same
    (subst (λ (x : Step). Comes x before given after a left) (step ∙ past_sheet before.setup before.state c (length given) long) comes)

-- a coil out of range is turned down
pub coil_refused : (b : Setup) (s : State) (c : Call) → coil_out_of_range c ≡ true → refused s CoilRange ≡ worked b s c
coil_refused b s (Issued m) e = absurd (both_ways _ refl e)
coil_refused b s Tick e = absurd (both_ways _ refl e)
coil_refused b s (Coil t) e = sym (cond-true (not (task_field t)) (refused s CoilRange) (answered (start_checks b s t) (settled s Done (starting s t None))) e)

-- a removal that takes nothing leaves what there was
pub none_taken : {P : Type 0} (m : P → Bool) (ps : List P) → length (filter m ps) ≡ 0 → filter (λ p. not (m p)) ps ≡ ps
none_taken m [] e = refl
none_taken m (p ∷ ps) e =
    elim (m p) as (λ b. length (cond b (p ∷ filter m ps) (filter m ps)) ≡ 0 → cond (not b) (p ∷ filter (λ q. not (m q)) ps) (filter (λ q. not (m q)) ps) ≡ p ∷ ps) [
      | true ↦ λ q. absurd (omega arith)
      | false ↦ λ q. ap (λ l. p ∷ l) (none_taken m ps q)
    ] e
