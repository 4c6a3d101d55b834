-- P1 to P13 of the small plant, and the case with B mounted, together, by computation. Assumes nothing.
use mathlib.Core.Path.{◌≡◌, refl}
use mathlib.Core.List.{[], ◌∷◌, map}
use lib.IntN.{pos}
use Rattle.mathematics.specs.Below.{is}
use Rattle.mathematics.specs.Week.{marked_once, one_each, shut, rule31, rule32, rule34}
use Rattle.std.specs.Prelude.{Err, Ok}
use Rattle.machine.specs.State.{inventory_of, backlog_of, has_run, with_inventory, with_backlog, with_line, with_week, with_profit, with_mounted}
use Rattle.machine.specs.Machine.{week_begin, clock_after, slot_done, slot_stops, slot_step, sales_due, backlog_after}
use Rattle.machine.specs.Machine.{sales_in_stock, inventory_after, storage_kept, booked}
use Rattle.machine.specs.Machine.{week_done, week_end}
use Rattle.machine.specs.Run.{opening, run_week, run, ran_week}
use Rattle.rules.specs.Rules.{week_of, production_end, mounted_after, mounted_before, rule33, rule35, rule36, rule37, rule38, rule39, rule40, rule41}
use Rattle.rules.specs.Rules.{changeovers_under, changeovers_in}
use Rattle.rules.specs.Rules.{backlog_before, inventory_before, revenue_in, changeover_charge_in, backlog_charge_in, inventory_charge_in, profit_of}
use Rattle.costs.specs.Mounted.{opening_mounted}
use Rattle.costs.specs.Changeover.{changeover_between}
use Rattle.rules.specs.Verdict.{trials, tried, profit_tried, verdict_of}
use Rattle.model.specs.RunTables.{line_tables, run_tables}
use Rattle.model.specs.SmallPlant as small
use Rattle.model.specs.SmallPlant.{judged, ran, fact_of, small_plant_of, small_plant, three_products, ring, small_slots, slots_of_b, small_cases, mounted_case}
use Rattle.sections.specs.declared.Refusal.TheVariants as refusal

pub small_plant_facts : (map fact_of small_cases
    ≡ ran (Ok (record { 0 = pos 8650000 })) (Ok tt)
    ∷ judged (Err refusal.Profit)
    ∷ judged (Err refusal.Position)
    ∷ ran (Ok (record { 0 = pos 6625000 })) (Ok tt)
    ∷ ran (Err refusal.RunMinutes) (Err refusal.RunMinutes)
    ∷ ran (Ok (record { 0 = pos 8346000 })) (Ok tt)
    ∷ ran (Err refusal.WeekMinutes) (Err refusal.WeekMinutes)
    ∷ ran (Err refusal.Inventory) (Err refusal.Inventory)
    ∷ ran (Err refusal.Backlog) (Err refusal.Backlog)
    ∷ ran (Err refusal.Inventory) (Err refusal.Inventory)
    ∷ ran (Ok (record { 0 = pos 8650000 })) (Ok tt)
    ∷ ran (Err refusal.Storage) (Err refusal.Storage)
    ∷ ran (Ok (record { 0 = pos 4500000 })) (Ok tt)
    ∷ [])
    × (fact_of mounted_case ≡ ran (Ok (record { 0 = pos 8150000 })) (Ok tt))
small_plant_facts =
    unfold small_plant_of small_plant three_products ring small_slots slots_of_b small.with_profit small_cases mounted_case line_tables run_tables in
    unfold inventory_of backlog_of has_run with_inventory with_backlog with_line with_week with_profit with_mounted week_begin clock_after slot_done slot_stops slot_step in
    unfold sales_due backlog_after sales_in_stock inventory_after storage_kept booked week_done week_end opening run_week run ran_week in
    unfold is marked_once one_each shut rule31 rule32 rule34 week_of production_end mounted_after mounted_before in
    unfold rule33 rule35 rule36 rule37 rule38 rule39 rule40 rule41 trials tried profit_tried verdict_of in
    unfold opening_mounted changeover_between changeovers_under changeovers_in backlog_before inventory_before in
    unfold revenue_in changeover_charge_in backlog_charge_in inventory_charge_in profit_of in
    (refl, refl)
