-- Digits, and the number that they are, are those of the standard library.
use Rattle.std.proofs.Common.{◌≡◌, true, rules}
use Rattle.std.specs.Prelude.{fold}
use Rattle.std.specs.List.{list_all}
use Rattle.std.proofs.lemmas.Str.Parse.{IsNumeralModel, numerals_by_fold}
use Rattle.cg_text.specs.Numbers.{is_digit, with_digit}

pub digits_are_numerals : IsNumeralModel (λ digits. list_all is_digit digits ≡ true) (λ digits. fold with_digit 0 digits)
digits_are_numerals = numerals_by_fold _ (search rules) (λ n digits. fold with_digit n digits) (search rules)
