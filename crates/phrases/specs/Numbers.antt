-- Numbers in thousandths.
use Rattle.std.specs.Prelude.{ℕ, ◌/◌, ◌%◌, ◌==◌, List, [], ◌++◌, ℤ, pos, int_lt, unsigned_abs, codes, if◌then◌else◌}
use Rattle.std.specs.Fmt.{decimal}

-- the decimals, without trailing zeros
abbrev pub fraction : ℕ → List ℕ
fraction n =
    if n % 1000 == 0 then []
    else if n % 100 == 0 then codes "." ++ decimal (n / 100 % 10)
    else if n % 10 == 0 then codes "." ++ decimal (n / 100 % 10) ++ decimal (n / 10 % 10)
    else codes "." ++ decimal (n / 100 % 10) ++ decimal (n / 10 % 10) ++ decimal (n % 10)

abbrev pub sign : ℤ → List ℕ
sign z = if int_lt z (pos 0) then codes "-" else []

-- the number with this many thousandths
abbrev pub thousandths : ℤ → List ℕ
thousandths z = sign z ++ decimal (unsigned_abs z / 1000) ++ fraction (unsigned_abs z)
