-- What the code computes; no promise stands here. Whether two kinds of rows are equal.
use Rattle.std.specs.Prelude.{◌==◌, ◌&&◌, Bool}
use Rattle.std.specs.Str.{bytes_eq}
use Rattle.step_values.specs.AgreementTests.{each_test}
use Rattle.value_equality.specs.Rows.{Kind}

abbrev pub kind_test : Kind → Kind → Bool
kind_test a b = (a.0 == b.0) && each_test bytes_eq a.1 b.1
