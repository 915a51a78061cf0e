-- No byte 10 stands in a line of a certificate, so its text is cut into lines in one way.
use Rattle.std.proofs.Common.{◌≡◌, ℕ, suc, ◌+◌, ◌<◌, ◌^◌, Bool, true, false, not, List, [], ◌∷◌, ◌++◌, length, map, refl, sym, ap, ◌∙◌, arith, append_assoc}
use Rattle.std.specs.Prelude.{decimal, ◌==◌, ◌&&◌}
use Rattle.std.specs.List.{list_all}
use Rattle.std.proofs.lemmas.Bool.{false≢true}
use Rattle.std.proofs.lemmas.Bool.Decides.{nat_tests}
use Rattle.value_equality.specs.Tables.{Origin, start, split, Table}
use Rattle.step_literals.specs.Bytes.{Each, is_digit}
use Rattle.step_literals.proofs.Runs.{cut_unique}
use Rattle.certificate_text.specs.Texts.{rounds_line, origin_text, class_line, class_lines, member_line, table_lines, certificate_lines, text_of, IsHeld}
use Rattle.certificate_text.specs.Faults.{IsLine}
use Rattle.certificate_text.specs.steps.ComputedParts.{IsShort}
use Rattle.certificate_text.proofs.Goings.{AreShort, AreMembers}
use Rattle.certificate_text.proofs.TableGoing.{shorts_of, members_of}
use Rattle.certificate_text.proofs.NumberTexts.{all_digits}

abbrev pub AreLines : List (List ℕ) → Type 0
AreLines [] = Unit {0}
AreLines (l ∷ ls) = IsLine l × AreLines ls

unbroken : (b : ℕ) → is_digit b ≡ true → not (b == 10) ≡ true
unbroken b h = grind (arith, nat_tests)

digits_line : (ds : List ℕ) → Each is_digit ds → IsLine ds
digits_line [] h = tt
digits_line (d ∷ ds) h = (unbroken d h.0, digits_line ds h.1)

number_line : (n : ℕ) → n < 2 ^ 64 → IsLine (decimal n)
number_line n lt = digits_line (decimal n) (all_digits n lt)

wide : (n : ℕ) → n < 2 ^ 32 → n < 2 ^ 64
wide n h = omega arith

pub join_lines : (a b : List ℕ) → IsLine a → IsLine b → IsLine (a ++ b)
join_lines [] b h k = k
join_lines (x ∷ a) b h k = (h.0, join_lines a b h.1 k)

both_hold : (a b : Bool) → (a && b) ≡ true → (a ≡ true) × (b ≡ true)
both_hold true b h = (refl, h)
both_hold false b h = absurd (false≢true h)

pub checked : (w : List ℕ) → list_all (λ b. not (b == 10)) w ≡ true → IsLine w
checked [] h = tt
checked (x ∷ w) h = let q = both_hold (not (x == 10)) (list_all (λ b. not (b == 10)) w) h in (q.0, checked w q.1)

origin_is_line : (o : Origin) → IsShort o → IsLine (origin_text o)
origin_is_line start h = tt
origin_is_line (split p r) h = (
  refl,
  (
    refl,
    join_lines (decimal p) (64 ∷ decimal r) (number_line p (wide p h.0))
        (refl, number_line r (wide r h.1)),
  ),
)

class_is_line : (n : ℕ) (o : Origin) → n < 2 ^ 64 → IsShort o → IsLine (class_line n o)
class_is_line n o lt h = (refl, join_lines (decimal n) (origin_text o) (number_line n lt) (origin_is_line o h))

member_is_line : (m : ℕ × ℕ) → m.0 < 2 ^ 64 → m.1 < 2 ^ 32 → IsLine (member_line m)
member_is_line m a b = (
  refl,
  join_lines (decimal m.0) (61 ∷ 67 ∷ decimal m.1) (number_line m.0 a)
      (refl, (refl, number_line m.1 (wide m.1 b))),
)

rounds_is_line : (k : ℕ) → k < 2 ^ 32 → IsLine (rounds_line k)
rounds_is_line k lt = join_lines (114 ∷ 111 ∷ 117 ∷ 110 ∷ 100 ∷ 115 ∷ 32 ∷ []) (decimal k)
    (checked (114 ∷ 111 ∷ 117 ∷ 110 ∷ 100 ∷ 115 ∷ 32 ∷ []) refl) (number_line k (wide k lt))

classes_are_lines : (n : ℕ) (os : List Origin) → n + length os < 2 ^ 64 → AreShort os → AreLines (class_lines n os)
classes_are_lines n [] lt h = tt
classes_are_lines n (o ∷ os) lt h = (
  class_is_line n o (omega (arith, lt)) h.0,
  classes_are_lines (suc n) os
      (omega (arith, lt)) h.1,
)

members_are_lines : (ms : List (ℕ × ℕ)) → AreMembers ms → AreLines (map member_line ms)
members_are_lines [] h = tt
members_are_lines (m ∷ ms) h = (member_is_line m h.0 h.1, members_are_lines ms h.2)

pub both_lines : (a b : List (List ℕ)) → AreLines a → AreLines b → AreLines (a ++ b)
both_lines [] b h k = k
both_lines (x ∷ a) b h k = (h.0, both_lines a b h.1 k)

pub front_lines : (a b : List (List ℕ)) → AreLines (a ++ b) → AreLines a
front_lines [] b h = tt
front_lines (x ∷ a) b h = (h.0, front_lines a b h.1)

pub back_lines : (a b : List (List ℕ)) → AreLines (a ++ b) → AreLines b
back_lines [] b h = h
back_lines (x ∷ a) b h = back_lines a b h.1

table_has_lines : (t : Table) → IsHeld t → AreLines (table_lines t)
table_has_lines t h = (
  rounds_is_line t.rounds h.few_rounds,
  both_lines (class_lines 0 t.classes)
      (map member_line t.members) (classes_are_lines 0 t.classes (omega (arith, h.few_classes)) (shorts_of t h))
      (members_are_lines t.members (members_of t h)),
)

pub certificate_has_lines : (s t : Table) → IsHeld s → IsHeld t → AreLines (certificate_lines s t)
certificate_has_lines s t hs ht =
    let e : IsLine (101 ∷ 110 ∷ 100 ∷ []) = checked (101 ∷ 110 ∷ 100 ∷ []) refl in
    let two : IsLine (116 ∷ 97 ∷ 98 ∷ 108 ∷ 101 ∷ 32 ∷ 50 ∷ []) = checked (116 ∷ 97 ∷ 98 ∷ 108 ∷ 101 ∷ 32 ∷ 50 ∷ []) refl in
    let one : IsLine (116 ∷ 97 ∷ 98 ∷ 108 ∷ 101 ∷ 32 ∷ 49 ∷ []) = checked (116 ∷ 97 ∷ 98 ∷ 108 ∷ 101 ∷ 32 ∷ 49 ∷ []) refl in
    let v : IsLine (83 ∷ 84 ∷ 69 ∷ 80 ∷ 67 ∷ 69 ∷ 82 ∷ 84 ∷ 32 ∷ 50 ∷ []) =
    checked (83 ∷ 84 ∷ 69 ∷ 80 ∷ 67 ∷ 69 ∷ 82 ∷ 84 ∷ 32 ∷ 50 ∷ []) refl in
    let back : AreLines (table_lines t ++ ((101 ∷ 110 ∷ 100 ∷ []) ∷ [])) =
    both_lines (table_lines t) ((101 ∷ 110 ∷ 100 ∷ []) ∷ []) (table_has_lines t ht) (e, tt) in (
      v,
      (
        one,
        both_lines (table_lines s) ((116 ∷ 97 ∷ 98 ∷ 108 ∷ 101 ∷ 32 ∷ 50 ∷ []) ∷ (table_lines t
            ++ ((101 ∷ 110 ∷ 100 ∷ []) ∷ []))) (table_has_lines s hs) (two, back),
      ),
    )

-- lines are cut off a text in one way
abbrev pub is_not_end : ℕ → Bool
is_not_end b = not (b == 10)

pub line_once : (l k r s : List ℕ) → IsLine l → IsLine k → l ++ (10 ∷ r) ≡ k ++ (10 ∷ s) → (l ≡ k) × (r ≡ s)
line_once l k r s hl hk e =
    let cut = cut_unique is_not_end l k (10 ∷ r) (10 ∷ s) hl hk refl refl e in (cut.0, behind 10 10 r s cut.1)
  where
    behind : (x y : ℕ) (xs ys : List ℕ) → x ∷ xs ≡ y ∷ ys → xs ≡ ys
    behind x y xs ys h = cc

pub no_end : (l r a : List ℕ) → IsLine a → a ≡ l ++ (10 ∷ r) → ⊥
no_end [] r [] h e = absurd (cc)
no_end (x ∷ l) r [] h e = absurd (cc)
no_end [] r (b ∷ a) h e = let same : b ≡ 10 = cc in let q = h.0 in absurd (grind (arith, nat_tests))
no_end (x ∷ l) r (b ∷ a) h e = no_end l r a h.1 (behind b x a (l ++ (10 ∷ r)) e)
  where
    behind : (x y : ℕ) (xs ys : List ℕ) → x ∷ xs ≡ y ∷ ys → xs ≡ ys
    behind x y xs ys h = cc

pub record Begins (xs ys : List (List ℕ)) (rest : List ℕ) : Type 0 where
  pub more : List (List ℕ)
  pub lines_are : xs ≡ ys ++ more
  pub rest_is : rest ≡ text_of more

-- a text of lines that begins with other lines
pub begins : (xs ys : List (List ℕ)) (rest : List ℕ) → AreLines xs → AreLines ys → text_of xs ≡ text_of ys ++ rest
    → Begins xs ys rest
begins xs [] rest hx hy e = record { more = xs; lines_are = refl; rest_is = sym e }
begins [] (y ∷ ys) rest hx hy e = absurd (no_end y (text_of ys ++ rest) [] tt (e ∙ append_assoc y (10 ∷ text_of ys) rest))
begins (x ∷ xs) (y ∷ ys) rest hx hy e =
    let cut = line_once x y (text_of xs) (text_of ys ++ rest) hx.0 hy.0 (e ∙ append_assoc y (10 ∷ text_of ys) rest) in
    let b = begins xs ys rest hx.1 hy.1 cut.1 in record {
      more = b.more;
      lines_are = (λ i. cut.0 i ∷ b.lines_are i);
      rest_is = b.rest_is;
    }

pub text_push : (ls : List (List ℕ)) (l rest : List ℕ) → text_of (ls ++ (l ∷ [])) ++ rest ≡ text_of ls ++ (l ++ (10 ∷ rest))
text_push [] l rest = append_assoc l (10 ∷ []) rest
text_push (k ∷ ls) l rest =
    append_assoc k (10 ∷ text_of (ls ++ (l ∷ []))) rest ∙ ap (λ x. k ++ (10 ∷ x)) (text_push ls l rest)
    ∙ sym (append_assoc k (10 ∷ text_of ls) (l ++ (10 ∷ rest)))
