use Rattle.std.proofs.Common.{rules, arith, ◌≡◌, ℕ, ◌<◌, [], ◌∷◌, false, length, get_or, refl, ap, ◌∙◌}
use Rattle.std.proofs.lemmas.List.{get_or_default}
use Rattle.roll.specs.Tables.{none}
use Rattle.roll.specs.Model.{Model, after_add}
use Rattle.roll.specs.Entries.{awake}
use Rattle.tasks.specs.Factors.{members}
use Rattle.tasks.specs.Views.{blank}
use Rattle.tasks.proofs.Rolls.{first_added}
use Rattle.tasks.proofs.Records as records
use Rattle.tasks.proofs.task_table.TaskTable.powered.Goals as goal

pub returns : goal.returns
returns g c =
    let ys = c.map-records.result in
    let ls = c.args.levels in
    let ly : length ys ≡ 128 = c.map-records.ensures.items.long in
    let ll : length ls ≡ 128 = search rules in
    let each : (i : ℕ) → i < 128 → ((get_or ys i blank).released ≡ false) × ((get_or ys i blank).level ≡ get_or ls i 0) × (members (get_or ys i blank).factors ≡ none) =
    (λ i lt. let e = (c.map-records.ensures.items.at i 0 blank lt).2.met in (e.0, e.1.0, e.1.1)) in
    let l = c.get.ensures.value ∙ get_or_default ls 1 c.index-levels-1.result 0 (omega (arith, ll)) in
    let roll = c.add.ensures.after ∙ ap (after_add 1 c.get.result) c.clear_all.ensures ∙ first_added c.get.result c.get.ensures.range.1
    ∙ ap (λ n. let r : Model = record { entries = awake 1 n ∷ []; held = none } in r) l in
    records.powered ys ls 128 ly ll each g.R.Roll.meaning c.add.new.self _ _ _ (omega arith) refl refl refl roll
