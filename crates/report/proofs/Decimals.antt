-- A number in decimal: the fewest digits that hold it are those without leading zeros. Assumes nothing.
use Prim.Native.Nat.{ℕ, zero, suc, ◌+◌, ◌/◌, ◌%◌, ◌^◌, ◌-◌, ◌≤◌, ◌<◌}
use mathlib.Core.Path.{◌≡◌}
use native.Mathlib.Omega.{arith}
use native.Mathlib.Nat.{pow-zero, pow-suc}
use borrow.Author.Tests.{lt-ltb, le-ltb}
use Rattle.io.specs.Digits.{hex_digit_ascii, last_digits, IsDigitCount}
use Rattle.report.specs.Report.{digits_to, decimal}

-- the glyph of a digit
glyph_is : (n : ℕ) → hex_digit_ascii (n % 10) ≡ 48 + n % 10
glyph_is n = rw (lt-ltb (n % 10) 10 (omega arith))

ten_positive : (k : ℕ) → 0 < 10 ^ k
ten_positive zero = omega (arith, pow-zero 10)
ten_positive (suc k) = omega (arith, pow-suc 10 k, ten_positive k)

-- a number of two digits or more
least_digits : (k n : ℕ) → IsDigitCount 10 1 n (suc (suc k)) → 10 ^ suc k ≤ n
least_digits k n f = let one : suc (suc k) - 1 ≡ suc k = omega arith in rw one at (f.2 (omega arith))

-- the fewest digits are those without leading zeros
fewest_digits : (j k n : ℕ) → n < 10 ^ suc j → IsDigitCount 10 1 n k → last_digits 10 k n ≡ digits_to (suc j) n
unfolding digits_to
fewest_digits j zero n h f = absurd (omega (arith, f.0))
fewest_digits j (suc zero) n h f =
    let low : n < 10 = omega (arith, f.1, pow-suc 10 0, pow-zero 10) in
    let same : n % 10 ≡ n = omega (arith, low) in
    rw (lt-ltb n 10 low, glyph_is n, same)
fewest_digits zero (suc (suc k)) n h f = absurd (omega (arith, h, least_digits k n f, pow-suc 10 k, pow-suc 10 0, pow-zero 10, ten_positive k))
fewest_digits (suc j) (suc (suc k)) n h f =
    let least = least_digits k n f in
    let less : suc k - 1 ≡ k = omega arith in
    let rest : IsDigitCount 10 1 (n / 10) (suc k) =
    (omega arith, omega (arith, f.1, pow-suc 10 (suc k)), λ i. rw less (omega (arith, least, pow-suc 10 k))) in
    rw (le-ltb n 10 (omega (arith, least, pow-suc 10 k, ten_positive k)), glyph_is n, fewest_digits j (suc k) (n / 10) (omega (arith, h, pow-suc 10 (suc j))) rest)

-- what `io::decimal` writes
pub decimal-is : (n k : ℕ) → n ≤ 18446744073709551615 → IsDigitCount 10 1 n k → last_digits 10 k n ≡ decimal n
decimal-is n k h f = fewest_digits 19 k n (omega (arith, h)) f
