-- `plant_file::RateList::write` meets its contract. Assumes nothing.
use native.Mathlib.Omega.{arith}
use Rattle.plant_file.proofs.GoodRates.{rates_good}
use Rattle.plant_file.proofs.rates.RateList.write.Goals as goal

pub write_rates-requires : goal.write_rates-requires
write_rates-requires c = (omega (arith, (rates_good _ _ _ c.args.self.accepted).0), omega arith)
