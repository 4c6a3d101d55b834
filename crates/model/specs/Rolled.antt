-- Request 2026-03, "roll on": the plant of the weeks after the first k, by the plan's own tables, and the slots and sales of these weeks. Assumes
-- nothing.
use Rattle.std.specs.Prelude.{ℕ, ◌+◌, ◌-◌, Bool, cond, ◌&&◌, leb, ltb}
use Rattle.mathematics.specs.Below.{all_below}
use Rattle.mathematics.specs.Week.{shut}
use Rattle.sections.specs.declared.Shape.{Shape}
use Rattle.sections.specs.Limits.{most_opening_backlog}
use Rattle.plant_file.specs.Plant.{Plant}
use Rattle.plan_file.specs.Plan.{Plan}
use Rattle.slot_file.specs.Slots.{Slots}
use Rattle.costs.specs.Mounted.{mounted_number}
use Rattle.rules.specs.Rules.{week_of, mounted_before, backlog_before, inventory_before}
use Rattle.model.specs.RunTables.{mounted_of}

-- k is "1 to W − 1"
unfoldable pub weeks_left : (weeks k : ℕ) → Bool
weeks_left weeks k = leb 1 k && ltb k weeks

-- no "owed amount exceeds the limit" after week k, which is before the week that counts as k from 0
unfoldable pub backlog_carried : Plant → Plan → ℕ → Bool
backlog_carried P x k =
    all_below P.customers (λ c. all_below P.products (λ i. leb (backlog_before P x k c i) most_opening_backlog))

-- "the kind 4 plant file of the remaining weeks: demands cut, stock, owed and mounted product as after week k, new rates, section 12's second byte
-- 1 exactly if week k was shut, the rest copied"
unfoldable pub rolled_plant : Plant → Plan → ℕ → (ℕ → ℕ) → Plant
rolled_plant P x k rate =
    record {
      kind = 4;
      products = P.products;
      customers = P.customers;
      weeks = P.weeks - k;
      line =
          record {
            rate = rate;
            changeover_minutes = P.line.changeover_minutes;
            changeover_cents = P.line.changeover_cents;
            mounted = mounted_number (mounted_of P.products (mounted_before P.products P.line x.line k));
            shut_before = cond (shut P.products (week_of x.line (k - 1))) 1 0;
          };
      demand = λ c i w. P.demand c i (k + w);
      price = P.price;
      backlog_cost = P.backlog_cost;
      inventory_cost = P.inventory_cost;
      least_storage = P.least_storage;
      greatest_storage = P.greatest_storage;
      opening_inventory = inventory_before P x k;
      opening_backlog = backlog_before P x k;
      shortest_run = P.shortest_run;
      week_minutes = P.week_minutes;
    }

-- its shape: kind 4, N, C, and the weeks that are left
abbrev pub rolled_shape : Shape → ℕ → Shape
rolled_shape f k = record { kind = 4; products = f.products; customers = f.customers; weeks = f.weeks - k }

-- "the slots and sales of the later weeks"
unfoldable pub later_slots : ℕ → Slots → Slots
later_slots k S = record { line = record { week = λ w. S.line.week (k + w) }; sales = λ c i w. S.sales c i (k + w) }
