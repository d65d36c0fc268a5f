-- Each wrong history, and the law that it breaks.
use Rattle.std.proofs.Common.{◌≡◌, ℕ, ◌+◌, ◌<◌, ◌≤◌, ◌⊎◌, refl, inl, inr, arith, lit<, lit≤}
use Rattle.std.proofs.lemmas.Bool.{true≢false}
use Rattle.roll.specs.Model.{count_in}
use Rattle.rules.specs.declared.call.Call.TheVariants.{Macro as Issues}
use Rattle.rules.specs.declared.call.Macro.TheVariants.{Delay}
use Rattle.laws.specs.Laws.{Sets, Sets.delays, Sets.times}
use Rattle.cases.specs.Made.{alike}
use Rattle.cases.specs.Refuted.{timer, Refuted}

differ : (m n : ℕ) → (m < n) ⊎ (n < m) → m ≡ n → ⊥
differ m n (inl a) e = omega arith
differ m n (inr a) e = omega arith

-- at one level, and younger
behind : (l a b : ℕ) → b < a → (l < l) ⊎ ((l ≡ l) × (a ≤ b)) → ⊥
behind l a b h (inl k) = omega arith
behind l a b h (inr k) = let z = k.1 in omega arith

sets_timer : Sets (alike 2) timer
sets_timer = times refl (lit≤ tt) (lit≤ tt) (lit≤ tt) (lit≤ tt)

sets_delay : Sets (alike 2) (Issues (Delay 1))
sets_delay = delays (lit≤ tt) (lit≤ tt)

pub refuted : Refuted (alike 2)
refuted = record {
  lost = λ s l. l.chosen 2 (record { starts = lit< tt; wakes = refl; free = refl });
  twice = λ s l. (let b : 1 ≡ 2 + count_in 1 s.tasks.roll = l.balance 1 in let z : ⊥ = omega arith in z);
  third = λ s l. (let b : 3 ≡ 0 + count_in 2 s.tasks.roll = l.balance 2 in let t = l.two 2 in let z : ⊥ = omega arith in z);
  youngest = λ s l. behind 2 2 0 (lit< tt) (l.chosen.1 1 (record { starts = lit< tt; wakes = refl; free = refl }));
  idle = λ s l. l.chosen 2 (record { starts = lit< tt; wakes = refl; free = refl });
  held = λ s l. true≢false l.chosen.0.free;
  early = λ s l. true≢false l.chosen.0.wakes;
  late = λ s l. behind 2 2 0 (lit< tt) (l.chosen.1 1 (record { starts = lit< tt; wakes = refl; free = refl }));
  stale = λ s l. behind 2 2 0 (lit< tt) (l.chosen.1 1 (record { starts = lit< tt; wakes = refl; free = refl }));
  full_early = λ s l. differ 63 64 (inl (lit< tt)) ((l.full (record { sheet = lit≤ tt; issuer = lit< tt; sets = sets_timer })).0 refl);
  never_full = λ s l. differ 0 1 (inl (lit< tt)) ((l.full (record { sheet = lit≤ tt; issuer = lit< tt; sets = sets_timer })).1 refl);
  cut_counted = λ s l. differ 63 64 (inl (lit< tt)) ((l.full (record { sheet = lit≤ tt; issuer = lit< tt; sets = sets_timer })).0 refl);
  not_freed = λ s l. differ 0 64 (inl (lit< tt)) ((l.full (record { sheet = lit≤ tt; issuer = lit< tt; sets = sets_delay })).0 refl);
  not_gone = λ s l. differ 0 64 (inl (lit< tt)) ((l.full (record { sheet = lit≤ tt; issuer = lit< tt; sets = sets_delay })).0 refl);
}
