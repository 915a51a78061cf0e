-- The cell of a token that is a leaf.
use Rattle.std.proofs.Common.{◌≡◌, ◌<◌, ◌≤◌, ◌+◌, ◌-◌, ◌*◌, ◌^◌, ℕ, suc, List, [], ◌∷◌, ◌++◌, length, take, drop, Option, Some, refl, sym, ◌∙◌, ap, subst, arith, length-append, length-drop, inl, inr}
use Rattle.std.specs.Prelude.{IfSome}
use Rattle.std.proofs.lemmas.List.{drop-take, drop-drop, take_at, take-take}
use Rattle.step_lexer.specs.declared.token.Mark.TheVariants.{Open, Close, Comma, Semicolon, Equals, Dollar, Asterisk}
use Rattle.step_lexer.specs.declared.token.Sort.{Sort}
use Rattle.step_lexer.specs.declared.token.Sort.TheVariants as sorts
use Rattle.step_lexer.specs.declared.token.Token.{Token}
use Rattle.step_lexer.specs.Front.{kind_of, HasValue}
use Rattle.step_literals.specs.Tokens.{IsNext}
use Rattle.step_structures.specs.Words.{name, number, element, string, binary, keyword, word_of}
use Rattle.step_structures.specs.Trees.{leaf}
use Rattle.step_records.specs.declared.cell.Leaf.{Leaf}
use Rattle.step_records.specs.Cells.{leaf_as, IsSpelt, part}
use Rattle.step_records.specs.steps.Tokens.{StandsIn, leaf_of, leaf_tree, dots_of}

-- so many bytes around these are left out
record Wraps (dots : ℕ) (w s : List ℕ) : Type 0 where
  size : length s ≡ length w + 2 * dots
  inner : take (length s - 2 * dots) (drop dots s) ≡ w

plain : (s : List ℕ) → Wraps 0 s s
plain s = record { size = omega arith; inner = ap (λ n. take n s) (omega arith) ∙ all s }
  where
    all : (s : List ℕ) → take (length s) s ≡ s
    all [] = refl
    all (x ∷ xs) = ap (λ l. x ∷ l) (all xs)

dotted : (w s : List ℕ) → 46 ∷ w ++ 46 ∷ [] ≡ s → Wraps 1 w s
dotted w s e =
    let n : length s ≡ length w + 2 = ap length (sym e) ∙ ap suc (length-append w (46 ∷ [])) ∙ omega arith in
    record {
      size = omega (arith, n);
      inner = ap (λ m. take m (drop 1 s)) (omega (arith, n)) ∙ ap (λ l. take (length w) (drop 1 l)) (sym e)
          ∙ take_at w (46 ∷ []) (length w) refl;
    }

-- what a leaf of this kind says of a token, and that it is spelt so
record Spelling (sort : Sort) (s : List ℕ) (k : Leaf) : Type 0 where
  w : List ℕ
  spelt : IsSpelt k w
  says : leaf_as k w ≡ leaf (word_of sort s)
  wraps : Wraps (dots_of k) w s

spelling : (sort : Sort) (s after : List ℕ) → IsNext (kind_of sort) s after → HasValue sort s
    → IfSome (leaf_of sort) (Spelling sort s)
spelling sorts.Begin s after n v = tt
spelling sorts.End s after n v = tt
spelling (sorts.Keyword x) s after n v = record {
  w = s;
  spelt = n.allowed;
  says = ap (λ t. leaf (keyword t)) (sym v);
  wraps = plain s;
}
spelling (sorts.UserDefined x) s after n v = tt
spelling sorts.Scope s after n v = tt
spelling (sorts.Name m) s after n v = record {
  w = s;
  spelt = (n.allowed, subst (λ i. i < 2 ^ 64) v.0 v.1);
  says = ap (λ i. leaf (name i s)) (sym v.0);
  wraps = plain s;
}
spelling (sorts.Integer d) s after n v = record {
  w = s;
  spelt = record { number = inl n.allowed; short = v.1 };
  says = ap (λ t. leaf (number t)) (sym v.0);
  wraps = plain s;
}
spelling (sorts.Real d) s after n v = record {
  w = s;
  spelt = record { number = inr n.allowed; short = v.1 };
  says = ap (λ t. leaf (number t)) (sym v.0);
  wraps = plain s;
}
spelling (sorts.Element x) s after n v =
    let word = n.allowed.0 in
    let one : Wraps 1 word s = dotted word s (sym n.allowed.2) in
    let two : Wraps 1 x.text.now s = dotted x.text.now s v in
    let same : word ≡ x.text.now = sym one.inner ∙ two.inner in
    record { w = word; spelt = n.allowed.1; says = ap (λ t. leaf (element t)) same; wraps = one }
spelling (sorts.String x) s after n v = record {
  w = s;
  spelt = record { string_is = n.allowed.0; readable = v.1 };
  says = ap (λ t. leaf (string t)) (sym v.0);
  wraps = plain s;
}
spelling (sorts.Binary b) s after n v = record {
  w = s;
  spelt = n.allowed;
  says = ap (λ t. leaf (binary t)) (sym v);
  wraps = plain s;
}
spelling (sorts.Mark Open) s after n v = tt
spelling (sorts.Mark Close) s after n v = tt
spelling (sorts.Mark Comma) s after n v = tt
spelling (sorts.Mark Semicolon) s after n v = tt
spelling (sorts.Mark Equals) s after n v = tt
spelling (sorts.Mark Dollar) s after n v = record { w = s; spelt = tt; says = refl; wraps = plain s }
spelling (sorts.Mark Asterisk) s after n v = record { w = s; spelt = tt; says = refl; wraps = plain s }

-- what a leaf of this kind says of a token at its byte offset
pub record Spans (text : List ℕ) (t : Token) (k : Leaf) : Type 0 where
  pub least : 2 * dots_of k ≤ length t.text.now
  pub within : (t.place + dots_of k) + (length t.text.now - 2 * dots_of k) ≤ length text
  pub spelt : IsSpelt k (part text (t.place + dots_of k) (length t.text.now - 2 * dots_of k))
  pub says : leaf_as k (part text (t.place + dots_of k) (length t.text.now - 2 * dots_of k)) ≡ leaf_tree t

some_of : {A : Type 0} (P : A → Type 0) (o : Option A) (a : A) → o ≡ Some a → IfSome o P → P a
some_of P o a e h = subst (λ p. IfSome p P) e h

-- a part of a part
inside : (n d : ℕ) (l : List ℕ) → 2 * d ≤ n → take (n - 2 * d) (drop d (take n l)) ≡ take (n - 2 * d) (drop d l)
inside n d l h =
    let whole : d + (n - d) ≡ n = omega (arith, h) in
    ap (λ m. take (n - 2 * d) (drop d (take m l))) (sym whole) ∙ ap (take (n - 2 * d)) (drop-take d (n - d) l)
    ∙ take-take (n - 2 * d) (n - d) (drop d l) (omega (arith, h))

pub spans : (text : List ℕ) (t : Token) (k : Leaf) → leaf_of t.sort ≡ Some k → StandsIn text t → Spans text t k
spans text t k e h =
    let n = length t.text.now in
    let d = dots_of k in
    let left = drop t.place text in
    let cut : t.text.now ≡ take n left = h.is in
    let at : Spelling t.sort (take n left) k = some_of (Spelling t.sort (take n left)) (leaf_of t.sort) k e
    (spelling t.sort (take n left) (drop n left) h.front.next h.front.value) in
    let here : Spelling t.sort t.text.now k = subst (λ s. Spelling t.sort s k) (sym cut) at in
    let size = here.wraps.size in
    let least : 2 * d ≤ n = omega (arith, size) in
    let same : part text (t.place + d) (n - 2 * d) ≡ here.w =
    ap (take (n - 2 * d)) (sym (drop-drop d t.place text)) ∙ sym (inside n d left least)
    ∙ ap (λ s. take (n - 2 * d) (drop d s)) (sym cut) ∙ here.wraps.inner in
    record {
      least = least;
      within = omega (arith, least, h.front.within, h.within, length-drop t.place text);
      spelt = subst (IsSpelt k) (sym same) here.spelt;
      says = ap (leaf_as k) same ∙ here.says;
    }
