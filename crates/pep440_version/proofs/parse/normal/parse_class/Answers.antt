use Rattle.std.proofs.Common.{arith, inl, inr, refl}
use Rattle.std.proofs.lemmas.Grind.{common_steps}
use Rattle.pep440_version.proofs.parse.normal.parse_class.Goals as goal

pub returns-in-46 : goal.returns-in-46
returns-in-46 c = (inr (inr (inr (inr refl))), grind (arith, common_steps))

pub returns-in-46-2 : goal.returns-in-46-2
returns-in-46-2 c = (inl refl, grind (arith, common_steps))

pub returns-in-114 : goal.returns-in-114
returns-in-114 c = (inr (inr (inr (inl refl))), grind (arith, common_steps))

pub returns-in-98 : goal.returns-in-98
returns-in-98 c = (inr (inr (inl refl)), grind (arith, common_steps))

pub returns-in-97 : goal.returns-in-97
returns-in-97 c = (inr (inl refl), grind (arith, common_steps))
