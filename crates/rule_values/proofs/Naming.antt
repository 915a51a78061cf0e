-- What names stand for, declaration by declaration.
use Rattle.std.proofs.Common.{◌≡◌, ◌+◌, ◌<◌, ℕ, zero, suc, true, false, List, [], ◌∷◌, length, drop, refl, ap, sym, ◌∙◌, arith}
use Rattle.std.specs.Prelude.{Bool, Option, Some, None, cond, map, slice_get, bytes_eq, if◌then◌else◌}
use Rattle.std.specs.Map.{lookup}
use Rattle.std.proofs.lemmas.Slice.Eq.{bytes_eq-Decides}
use Rattle.indexmap.specs.IndexMap.{insert_entry}
use Rattle.step_literals.specs.declared.literal.Word.{Word}
use Rattle.step_values.specs.Views.{word_of}
use Rattle.express_syntax.specs.Schemas.{Declaration}
use Rattle.schema_semantics.specs.Names.{Name, declared_name, is_named}
use Rattle.schema_names.specs.Numbers.{number_from}
use Rattle.schema_names.specs.Words.{same_word}
use Rattle.rule_values.specs.NamedValues.{names}

-- a test of names is the same from both sides
pub turned-test : (m n : Name) → bytes_eq m n ≡ bytes_eq n m
turned-test m n = by (bytes_eq m n) (bytes_eq n m) refl refl
  where
    by : (b c : Bool) → bytes_eq m n ≡ b → bytes_eq n m ≡ c → b ≡ c
    by true true e f = refl
    by false false e f = refl
    by true false e f =
        let same : bytes_eq n m ≡ true = (bytes_eq-Decides n m).1 (sym ((bytes_eq-Decides m n).0 e)) in absurd (cc)
    by false true e f =
        let same : bytes_eq m n ≡ true = (bytes_eq-Decides m n).1 (sym ((bytes_eq-Decides n m).0 f)) in absurd (cc)

-- what a name stands for among entries
abbrev among : Name → List (Word × ℕ) → Option ℕ
among n es = lookup (λ v. bytes_eq n (word_of v)) es

-- an entry takes the place of one of the same word
taken : (n : Name) (w v : Word) (b c : ℕ) (es : List (Word × ℕ)) (p q : Bool) → bytes_eq n (word_of v) ≡ p
    → bytes_eq n (word_of w) ≡ q → same_word w v ≡ true
    → cond p (Some b) (among n es) ≡ cond q (Some b) (cond p (Some c) (among n es))
taken n w v b c es true true e f same = refl
taken n w v b c es false false e f same = refl
taken n w v b c es true false e f same =
    let words : word_of w ≡ word_of v = (bytes_eq-Decides (word_of w) (word_of v)).0 same in
    let other : bytes_eq n (word_of v) ≡ false = ap (bytes_eq n) (sym words) ∙ f in absurd (cc)
taken n w v b c es false true e f same =
    let words : word_of w ≡ word_of v = (bytes_eq-Decides (word_of w) (word_of v)).0 same in
    let other : bytes_eq n (word_of w) ≡ false = ap (bytes_eq n) words ∙ e in absurd (cc)

-- an entry of another word stays
stays : (n : Name) (w v : Word) (b c : ℕ) (o : Option ℕ) (p q : Bool) → bytes_eq n (word_of v) ≡ p
    → bytes_eq n (word_of w) ≡ q → same_word w v ≡ false
    → cond p (Some c) (cond q (Some b) o) ≡ cond q (Some b) (cond p (Some c) o)
stays n w v b c o true true e f other =
    let one : n ≡ word_of v = (bytes_eq-Decides n (word_of v)).0 e in
    let also : n ≡ word_of w = (bytes_eq-Decides n (word_of w)).0 f in
    let both : same_word w v ≡ true = (bytes_eq-Decides (word_of w) (word_of v)).1 (sym also ∙ one) in absurd (cc)
stays n w v b c o true false e f other = refl
stays n w v b c o false q e f other = refl

inserted-by : (n : Name) (w : Word) (b : ℕ) (e : Word × ℕ) (es : List (Word × ℕ)) (same : Bool)
    → same_word w e.0 ≡ same
    → among n (insert_entry same_word es w b) ≡ cond (bytes_eq n (word_of w)) (Some b) (among n es)
    → among n (if same then (e.0, b) ∷ es else e ∷ insert_entry same_word es w b)
    ≡ cond (bytes_eq n (word_of w)) (Some b) (among n (e ∷ es))
inserted-by n w b e es true same more =
    taken n w e.0 b e.1 es (bytes_eq n (word_of e.0)) (bytes_eq n (word_of w)) refl refl same
inserted-by n w b e es false other more =
    ap (cond (bytes_eq n (word_of e.0)) (Some e.1)) more
    ∙ stays n w e.0 b e.1 (among n es) (bytes_eq n (word_of e.0)) (bytes_eq n (word_of w)) refl refl other

-- an entry more
pub found-inserted : (es : List (Word × ℕ)) (w : Word) (b : ℕ) (n : Name)
    → lookup (λ v. bytes_eq n (word_of v)) (insert_entry same_word es w b)
    ≡ cond (bytes_eq n (word_of w)) (Some b) (lookup (λ v. bytes_eq n (word_of v)) es)
found-inserted [] w b n = refl
found-inserted (e ∷ es) w b n = inserted-by n w b e es (same_word w e.0) refl (found-inserted es w b n)

-- what is declared at a number
pub there : {A : Type 0} (xs : List A) (i : ℕ) → i < length xs → (x : A) × (slice_get xs i ≡ Some x)
there [] i l = absurd (omega (arith, l))
there (x ∷ xs) zero l = (x, refl)
there (x ∷ xs) (suc i) l = there xs i (omega (arith, l))

pub mapped-length : {A B : Type 0} (f : A → B) (xs : List A) → length (map f xs) ≡ length xs
mapped-length f [] = refl
mapped-length f (x ∷ xs) = ap suc (mapped-length f xs)

-- one declaration more, from the last one on
pub from-next : (ds : List Declaration) (i : ℕ) (n : Name) → i < length ds
    → (if names (slice_get ds i) n then Some i else number_from (i + 1) (drop (i + 1) ds) n)
    ≡ number_from i (drop i ds) n
from-next ds i n l = by (there ds i l)
  where
    dropped : (ds : List Declaration) (i : ℕ) (d : Declaration) → slice_get ds i ≡ Some d → drop i ds ≡ d ∷ drop (suc i) ds
    dropped [] i d e = absurd (cc)
    dropped (x ∷ xs) zero d e = let same : x ≡ d = cc in ap (λ y. y ∷ xs) same
    dropped (x ∷ xs) (suc i) d e = dropped xs i d e

    chosen : (b : Bool) (o : Option ℕ) → (if b then Some i else o) ≡ cond b (Some i) o
    chosen true o = refl
    chosen false o = refl

    by : (d : Declaration) × (slice_get ds i ≡ Some d)
        → (if names (slice_get ds i) n then Some i else number_from (i + 1) (drop (i + 1) ds) n)
        ≡ number_from i (drop i ds) n
    by (d, at) =
        let next : i + 1 ≡ suc i = omega arith in
        ap (λ o. if names o n then Some i else number_from (i + 1) (drop (i + 1) ds) n) at
        ∙ chosen (is_named n (declared_name d)) (number_from (i + 1) (drop (i + 1) ds) n)
        ∙ ap (λ k. cond (is_named n (declared_name d)) (Some i) (number_from (i + 1) (drop k ds) n)) next
        ∙ ap (λ xs. number_from i xs n) (sym (dropped ds i d at))

pub at-end : (ds : List Declaration) (i : ℕ) (n : Name) → i ≡ length ds → None ≡ number_from i (drop i ds) n
at-end ds i n e = sym (ap (λ xs. number_from i xs n) (none-left ds i e))
  where
    none-left : (ds : List Declaration) (i : ℕ) → i ≡ length ds → drop i ds ≡ []
    none-left [] i e = ap (λ k. drop k []) e
    none-left (d ∷ ds) zero e = absurd (omega (arith, e))
    none-left (d ∷ ds) (suc i) e = none-left ds i (omega (arith, e))

-- the name of a declaration is added
pub added : (ds : List Declaration) (i : ℕ) (d : Declaration) (w : Word) (b : ℕ) (es new : List (Word × ℕ))
    (n : Name) → slice_get ds i ≡ Some d → Some (word_of w) ≡ declared_name d
    → new ≡ insert_entry same_word es w b
    → among n new ≡ (if names (slice_get ds i) n then Some b else among n es)
added ds i d w b es new n at called e =
    ap (among n) e ∙ found-inserted es w b n
    ∙ ap (λ c. cond c (Some b) (among n es)) (turned-test n (word_of w))
    ∙ chosen (bytes_eq (word_of w) n)
    ∙ ap (λ o. if is_named n o then Some b else among n es) called
    ∙ ap (λ o. if names o n then Some b else among n es) (sym at)
  where
    chosen : (c : Bool) → cond c (Some b) (among n es) ≡ (if c then Some b else among n es)
    chosen true = refl
    chosen false = refl
