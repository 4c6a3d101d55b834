-- The model's rules 33 and 35 to 41, in the paper's words. Rules 31, 32 and 34 are of one week's tables and stand in `mathematics`. The rules
-- of a line, up to 36, take the line's own numbers and tables. Assumes nothing.
use Rattle.std.specs.Prelude.{ℕ, zero, suc, ◌+◌, ◌*◌, Bool, false, ◌&&◌, cond, eqb, leb, ℤ, pos, negsuc, ◌-ℤ◌}
use Rattle.mathematics.specs.Below.{sum_below, all_below, within}
use Rattle.mathematics.specs.Week.{WeekTables, shut}
use Rattle.plant_file.specs.Plant.{LinePlant, Plant}
use Rattle.plan_file.specs.Plan.{LinePlan, Plan}
use Rattle.costs.specs.Mounted.{is_mounted, opening_mounted}
use Rattle.costs.specs.Changeover.{changeover_between}
use Rattle.costs.specs.Money.{revenue_of, backlog_charge_of, inventory_charge_of, changeover_charge_of}

-- the tables of week w
unfoldable pub week_of : LinePlan → ℕ → WeekTables
week_of x w =
    record { assigned = x.assigned w; first = x.first w; last = x.last w; position = x.position w; changeover = x.changeover w }

-- the weeks up to "the last producing week" before week w, that one counted too; 0 if there is none (request 2026-01)
unfoldable pub production_end : ℕ → LinePlan → ℕ → ℕ
production_end N x zero = 0
production_end N x (suc w) = cond (shut N (week_of x w)) (production_end N x w) (suc w)

-- what is mounted on the line after n weeks, as 1 at that product, where the last of them produces: L; at first what the opening has
unfoldable pub mounted_after : LinePlant → LinePlan → ℕ → ℕ → ℕ
mounted_after l x zero i = is_mounted (opening_mounted l) i
mounted_after l x (suc w) i = x.last w i

-- what is mounted on the line before week w: "the last product of the last producing week, if there was one", else what the plant has mounted
-- (request 2026-02)
unfoldable pub mounted_before : ℕ → LinePlant → LinePlan → ℕ → ℕ → ℕ
mounted_before N l x w = mounted_after l x (production_end N x w)

-- 33, by requests 2026-01 and 2026-02: into j ZF sums to F of j, out of i to L of i in the last producing week before, or to 1 at the plant's own
-- product where there is no such week, each sum where something is mounted before the week and the week has a first product. Behind rule 31
-- these are the paper's sums: the law `same_verdict`
unfoldable pub rule33 : ℕ → LinePlant → LinePlan → ℕ → Bool
rule33 N l x w =
    all_below N (λ j. eqb (sum_below N (λ i. x.week_changeover w i j)) (x.first w j * sum_below N (mounted_before N l x w)))
    && all_below N (λ i. eqb (sum_below N (λ j. x.week_changeover w i j)) (mounted_before N l x w i * sum_below N (x.first w)))

-- 35: "shortest × E ≤ T ≤ week × E"
abbrev pub run_at : (shortest week : ℕ) → LinePlan → ℕ → ℕ → Bool
run_at shortest week x w i = within (shortest * x.assigned w i) (week * x.assigned w i) (x.minutes w i)

unfoldable pub rule35 : (N shortest week : ℕ) → LinePlan → ℕ → Bool
rule35 N shortest week x w = all_below N (run_at shortest week x w)

-- "changeover minutes under" marks of 0 and 1, or cents
unfoldable pub changeovers_under : ℕ → (table marks : ℕ → ℕ → ℕ) → ℕ
changeovers_under N table marks = sum_below N (λ i. sum_below N (λ j. marks i j * changeover_between table i j))

-- "under Z and ZF": week w's, within it and from what is mounted before
unfoldable pub changeovers_in : ℕ → (ℕ → ℕ → ℕ) → LinePlan → ℕ → ℕ
changeovers_in N table x w = changeovers_under N table (x.changeover w) + changeovers_under N table (x.week_changeover w)

-- 36: "all T, plus changeover minutes under Z and ZF, are at most the week's minutes"
unfoldable pub rule36 : (N week : ℕ) → LinePlant → LinePlan → ℕ → Bool
rule36 N week l x w = leb (sum_below N (x.minutes w) + changeovers_in N l.changeover_minutes x w) week

-- 37: "P = r × T"
abbrev pub production_at : Plant → Plan → ℕ → ℕ → Bool
production_at P x w i = eqb (x.production w i) (P.line.rate i * x.line.minutes w i)

unfoldable pub rule37 : Plant → Plan → ℕ → Bool
rule37 P x w = all_below P.products (production_at P x w)

-- "Before week 0 stand section 10's numbers."
unfoldable pub backlog_before : Plant → Plan → ℕ → ℕ → ℕ → ℕ
backlog_before P x zero c i = P.opening_backlog c i
backlog_before P x (suc w) c i = x.backlog c i w

unfoldable pub inventory_before : Plant → Plan → ℕ → ℕ → ℕ
inventory_before P x zero i = P.opening_inventory i
inventory_before P x (suc w) i = x.inventory w i

-- 38: "Δ = Δ before + demand − S", as sums, since no number here is below 0
abbrev pub backlog_at : Plant → Plan → (c i w : ℕ) → Bool
backlog_at P x c i w = eqb (x.backlog c i w + x.sales c i w) (backlog_before P x w c i + P.demand c i w)

unfoldable pub rule38 : Plant → Plan → ℕ → Bool
rule38 P x w = all_below P.customers (λ c. all_below P.products (λ i. backlog_at P x c i w))

-- 39: "V = V before + P − all S"
abbrev pub inventory_at : Plant → Plan → ℕ → ℕ → Bool
inventory_at P x w i = eqb (x.inventory w i + sum_below P.customers (λ c. x.sales c i w)) (inventory_before P x w i + x.production w i)

unfoldable pub rule39 : Plant → Plan → ℕ → Bool
rule39 P x w = all_below P.products (inventory_at P x w)

-- 40: "V within storage"
abbrev pub storage_at : Plant → Plan → ℕ → ℕ → Bool
storage_at P x w i = within (P.least_storage i) (P.greatest_storage i) (x.inventory w i)

unfoldable pub rule40 : Plant → Plan → ℕ → Bool
rule40 P x w = all_below P.products (storage_at P x w)

-- 41, a week's money: "price times S, 1000 times the cents under Z and ZF, unit costs times Δ and V"
unfoldable pub revenue_in : Plant → Plan → ℕ → ℕ
revenue_in P x w = revenue_of P (λ c i. x.sales c i w)

unfoldable pub changeover_charge_in : Plant → Plan → ℕ → ℕ
changeover_charge_in P x w = changeover_charge_of (changeovers_in P.products P.line.changeover_cents x.line w)

unfoldable pub backlog_charge_in : Plant → Plan → ℕ → ℕ
backlog_charge_in P x w = backlog_charge_of P (λ c i. x.backlog c i w)

unfoldable pub inventory_charge_in : Plant → Plan → ℕ → ℕ
inventory_charge_in P x w = inventory_charge_of P (x.inventory w)

-- "sales − changeovers − backlog − inventory", over the first n weeks
unfoldable pub profit_of : Plant → Plan → ℕ → ℤ
profit_of P x n =
    pos (sum_below n (revenue_in P x)) -ℤ pos (sum_below n (changeover_charge_in P x))
    -ℤ pos (sum_below n (backlog_charge_in P x)) -ℤ pos (sum_below n (inventory_charge_in P x))

-- two integers are equal
abbrev pub same_integer : ℤ → ℤ → Bool
same_integer (pos a) (pos b) = eqb a b
same_integer (pos a) (negsuc b) = false
same_integer (negsuc a) (pos b) = false
same_integer (negsuc a) (negsuc b) = eqb a b

-- 41: the profit, over all weeks
unfoldable pub rule41 : Plant → Plan → Bool
rule41 P x = same_integer x.profit (profit_of P x P.weeks)
