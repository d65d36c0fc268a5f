-- What a row of places means, and what a beat makes of it.
use Rattle.std.specs.Prelude.{ℕ, Bool, cond, List, [], ◌∷◌, ◌++◌, length, Some, None, fold, filter, Option, nat_lt}
use Rattle.std.specs.List.{flat_map}
use Rattle.sheet.specs.declared.event.Event.{Event}
use Rattle.table.specs.declared.firing.Firing.{Firing}

-- what there is, as a list of one or none
abbrev pub listed : {X : Type 0} → Option X → List X
listed (Some x) = x ∷ []
listed None = []

-- the place that an entry, if there is one, is written to
abbrev pub placed : {E P : Type 0} → (E → P) → Option E → Option P
placed f (Some e) = Some (f e)
placed f None = None

-- the entries of a row of places, in order of acceptance
abbrev pub entries : {P : Type 0} → (P → Bool) → List P → List P
entries live ps = filter live ps

-- what is left of the entries after a beat, each beaten once
abbrev pub lefts : {P : Type 0} → (P → Option P) → List P → List P
lefts after ps = flat_map (λ p. listed (after p)) ps

-- what the entries fire at a beat, oldest first
abbrev pub firings : {P : Type 0} → (P → Option Firing) → List P → List Firing
firings fires ps = flat_map (λ p. listed (fires p)) ps

-- what firings, one after the other, make of their target
abbrev pub all_fired : {S : Type 0} → (S → Firing → S) → S → List Firing → S
all_fired fired s fs = fold fired s fs

-- the event of each firing, in their order
abbrev pub all_told : {S : Type 0} → (S → Firing → S) → (S → Firing → Event) → S → List Firing → List Event
all_told fired tells s [] = []
all_told fired tells s (f ∷ fs) = tells s f ∷ all_told fired tells (fired s f) fs

-- the entries with one more, which is refused when every place is taken
abbrev pub added : {P : Type 0} → ℕ → List P → P → List P
added size es p = cond (nat_lt (length es) size) (es ++ (p ∷ [])) es
