-- A version printed with its sentinels, which its normalized form leaves out.
use Rattle.std.specs.Prelude.{ℕ, List, ◌++◌, codes}
use Rattle.pep440_version.specs.Print.{print, labelled}
use Rattle.pep440_version.specs.Record.{Record}

-- the normalized form, and then the sentinels
abbrev pub print_with_sentinels : Record → List ℕ
print_with_sentinels r = print r ++ (labelled (codes "~min") r.min ++ labelled (codes "~max") r.max)
