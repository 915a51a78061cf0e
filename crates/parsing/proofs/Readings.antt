-- How far a text is read.
use Rattle.std.proofs.Common.{◌≡◌, ℕ, ◌+◌, ◌≤◌, ◌<◌, suc, Bool, true, false, if◌then◌else◌, ◌&&◌, nat_eq, List, [], ◌∷◌, length, drop, refl, sym, ap, ◌∙◌, subst, arith, length-drop}
use Rattle.std.specs.List.{starts_with}
use Rattle.std.proofs.lemmas.List.{drop-drop}
use Rattle.parsing.specs.Reading.{Lexis, Reading, Reaches, IsFaulty, start}

module _ {T F : Type 0} (lexis : Lexis T F) (old : Reading) (text left : List ℕ) (place n : ℕ) (ht : text ≡ old.text)
    (hp : place ≡ old.place) (within : place ≤ length text) (hl : left ≡ drop place text) (fits : n ≤ length left)
    (skips : lexis.SkipsLayout left (drop n left)) where
  pub reaches : Reaches lexis old (place + n)
  reaches =
      let there : drop (place + n) old.text ≡ drop n left = ap (drop (place + n)) (sym ht)
      ∙ sym (drop-drop n place text) ∙ ap (drop n) (sym hl) in
      let here : drop old.place old.text ≡ left = (λ i. drop (sym hp i) (sym ht i)) ∙ sym hl in
      record {
        within = omega (arith, ap length ht, ap length hl, length-drop place text, fits, within);
        layout = rw (there, here) skips;
      }

  pub faulty : (after : List ℕ) (fault : F) → after ≡ drop (place + n) text → 0 < length after
      → lexis.IsFlawed after (place + n) fault → IsFaulty lexis old fault old
  faulty after fault ha some flawed = record {
    place = place + n;
    reaches = reaches;
    more = omega (arith, some, ap length ha, length-drop (place + n) text, ap length ht);
    flawed = subst (λ l. lexis.IsFlawed l (place + n) fault) (ha ∙ ap (drop (place + n)) ht) flawed;
    same = refl;
  }

-- a byte order mark is skipped only where one stands
pub start_within : (text : List ℕ) → (start text).place ≤ length text
start_within [] = omega arith
start_within (a ∷ []) = one (nat_eq 239 a)
  where
    one : (b : Bool) → (if b && false then 3 else 0) ≤ 1
    one true = omega arith
    one false = omega arith
start_within (a ∷ b ∷ []) = two (nat_eq 239 a) (nat_eq 187 b)
  where
    two : (b c : Bool) → (if b && (c && false) then 3 else 0) ≤ 2
    two true true = omega arith
    two true false = omega arith
    two false c = omega arith
start_within (a ∷ b ∷ c ∷ more) = three (starts_with nat_eq (a ∷ b ∷ c ∷ more) (239 ∷ 187 ∷ 191 ∷ []))
  where
    three : (b : Bool) → (if b then 3 else 0) ≤ suc (suc (suc (length more)))
    three true = omega arith
    three false = omega arith
