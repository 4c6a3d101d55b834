-- What is mounted on a line. Assumes nothing.
use Rattle.std.specs.Prelude.{ℕ, ◌<◌, cond, eqb}
use Rattle.mathematics.specs.Below.{is}
use Rattle.sections.specs.Limits.{nothing_mounted}
use Rattle.plant_file.specs.Plant.{LinePlant}
use Rattle.std.specs.Prelude.{Option, None, Some}

-- the product that the line is set up for, if any
abbrev pub Mounted : Type 0
Mounted = Option ℕ

-- 1 where product i is mounted, else 0
abbrev pub is_mounted : Mounted → ℕ → ℕ
is_mounted None i = 0
is_mounted (Some p) i = is p i

-- what is mounted is one of N products
abbrev pub mounted_below : ℕ → Mounted → Type 0
mounted_below N None = Unit {0}
mounted_below N (Some q) = q < N

-- before the first week: "the mounted product or 255 for none" (request 2026-02)
unfoldable pub opening_mounted : LinePlant → Mounted
opening_mounted l = cond (eqb l.mounted nothing_mounted) None (Some l.mounted)

-- the same the other way: what section 12 has for what is mounted
abbrev pub mounted_number : Mounted → ℕ
mounted_number None = nothing_mounted
mounted_number (Some p) = p
