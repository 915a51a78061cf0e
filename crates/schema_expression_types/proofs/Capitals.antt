-- Names in capitals.
use Rattle.std.specs.Prelude.{◌≡◌, ◌<◌, ◌∷◌, ◌++◌, [], ℕ, zero, suc, ◌+◌, Bool, true, false, ◌&&◌, nat_eq, Option, None, Some, MatchOption, List, length, take, drop, map, slice_get}
use Rattle.std.specs.Char.{to_ascii_uppercase}
use Rattle.std.proofs.Common.{refl, ap, sym, subst, ◌∙◌, arith, take-append-drop}
use Rattle.std.proofs.lemmas.Bool.Decides.{nat_tests}
use Rattle.std.proofs.lemmas.Str.Ascii.{uppercase-uppercase}
use Rattle.std.proofs.Math.Logic.{∥∥₁_elim}
use Rattle.std.proofs.Math.Seq.{take-append_seam, drop-append_seam}
use Rattle.std.proofs.lemmas.List.{length-map}
use Rattle.std.specs.Cmp.Lexicographic.{pointwise}
use Rattle.step_literals.specs.Bytes.{is_letter, is_word_byte, Each}
use Rattle.step_literals.specs.Tokens.{IsKeyword}
use Rattle.step_literals.specs.Words.{upper}
use Rattle.step_literals.specs.declared.literal.Word.{Word}
use Rattle.step_literals.specs.steps.Faults.{IsNoWord}
use Rattle.step_literals.specs.declared.fault.Flaw.{Flaw}
use Rattle.step_literals.specs.declared.fault.Flaw.TheVariants.{BadToken}
use Rattle.step_literals.proofs.KeywordLemmas.{keyword_each}
use Rattle.express_syntax.specs.ExpressionViews.{capitals}
use Rattle.express_syntax.specs.declared.tree.Declaration.{Declaration as Declared}
use Rattle.express_syntax.specs.declared.tree.Declaration.TheVariants as declarations
use Rattle.express_syntax.specs.declared.tree.SchemaTree.{SchemaTree}
use Rattle.express_syntax.specs.Schemas.{Declaration}
use Rattle.express_syntax.specs.Views.{declaration_of}
use Rattle.express_syntax.specs.SchemaViews.{schema_of}
use Rattle.schema_semantics.specs.Names.{Name, declared_name}
use Rattle.schema_names.specs.Numbers.{number_of, HasNumber}
use Rattle.schema_names.proofs.Numbers.{what-stands}
use Rattle.schema_names.proofs.Rows.{map-joined}
use Rattle.schema_expression_types.specs.steps.Characters.{AreBytes, SaysIn}

pub upper-upper : (w : List ℕ) → upper (upper w) ≡ upper w
upper-upper [] = refl
upper-upper (b ∷ bs) = λ i. uppercase-uppercase b i ∷ upper-upper bs i

-- words in capitals
upper-letter : (b : ℕ) → is_letter b ≡ true → is_letter (to_ascii_uppercase b) ≡ true
upper-letter b h = grind (arith, nat_tests)

upper-word-byte : (b : ℕ) → is_word_byte b ≡ true → is_word_byte (to_ascii_uppercase b) ≡ true
upper-word-byte b h = grind (arith, nat_tests)

upper-each : (bs : List ℕ) → Each is_word_byte bs → Each is_word_byte (upper bs)
upper-each [] h = tt
upper-each (b ∷ bs) h = (upper-word-byte b h.0, upper-each bs h.1)

upper-keyword : (bs : List ℕ) → IsKeyword bs → IsKeyword (upper bs)
upper-keyword [] h = h
upper-keyword (b ∷ bs) h = (upper-letter b h.0, upper-each bs h.1)

never : IsProp ⊥
never x y = absurd x

upper-byte : (b : ℕ) → is_word_byte b ≡ true → to_ascii_uppercase b < 256
upper-byte b h = grind (arith, nat_tests)

bytes-of-each : (bs : List ℕ) → Each is_word_byte bs → AreBytes (upper bs)
bytes-of-each [] h = tt
bytes-of-each (b ∷ bs) h = (upper-byte b h.0, bytes-of-each bs h.1)

bytes-joined : (xs ys : List ℕ) → AreBytes xs → AreBytes ys → AreBytes (xs ++ 46 ∷ ys)
bytes-joined [] ys h k = (omega arith, k)
bytes-joined (x ∷ xs) ys h k = (h.0, bytes-joined xs ys h.1 k)

upper-joined : (xs ys : List ℕ) → upper xs ≡ xs → upper ys ≡ ys → upper (xs ++ 46 ∷ ys) ≡ xs ++ 46 ∷ ys
upper-joined xs ys h k =
    map-joined to_ascii_uppercase xs (46 ∷ ys) ∙ ap (λ zs. zs ++ 46 ∷ upper ys) h ∙ ap (λ zs. xs ++ 46 ∷ zs) k

-- what stands behind the same
pub behind-same : (xs ys zs : List ℕ) → (xs ++ 46 ∷ ys) ≡ (xs ++ 46 ∷ zs) → ys ≡ zs
behind-same [] ys zs e = cc
behind-same (x ∷ xs) ys zs e = let rest : (xs ++ 46 ∷ ys) ≡ (xs ++ 46 ∷ zs) = cc in behind-same xs ys zs rest

-- declared names are words in capitals
name-here : (x : Declared) (n : Name) → declared_name (declaration_of x) ≡ Some n → (w : Word) × (n ≡ capitals w)
name-here (declarations.Type t) n e = let same : capitals t.name ≡ n = cc in (t.name, sym same)
name-here (declarations.Entity d) n e = let same : capitals d.name ≡ n = cc in (d.name, sym same)
name-here (declarations.Skipped p) n e = absurd (cc)

name-at : (ds : List Declared) (i : ℕ) (d : Declaration) (n : Name) → slice_get (map declaration_of ds) i ≡ Some d
    → declared_name d ≡ Some n → (w : Word) × (n ≡ capitals w)
name-at [] i d n at named = absurd (cc)
name-at (x ∷ ds) zero d n at named =
    let same : declaration_of x ≡ d = cc in name-here x n (ap declared_name same ∙ named)
name-at (x ∷ ds) (suc i) d n at named = name-at ds i d n at named

module _ (x : SchemaTree) where
  name-of : (n : Name) (i : ℕ) → HasNumber (schema_of x) n i → (w : Word) × (n ≡ capitals w)
  name-of n i k =
      let (d, at, named) = what-stands (schema_of x) n i k in name-at x.declarations.items i d n at named

  pub name-capitals : (n : Name) (i : ℕ) → HasNumber (schema_of x) n i → upper n ≡ n
  name-capitals n i k =
      let (w, e) = name-of n i k in ap upper e ∙ upper-upper w.text.now ∙ sym e

  pub said-capitals : (n : Name) (i : ℕ) → HasNumber (schema_of x) n i
      → upper ((schema_of x).name ++ 46 ∷ n) ≡ (schema_of x).name ++ 46 ∷ n
  said-capitals n i k = upper-joined (schema_of x).name n (upper-upper x.name.text.now) (name-capitals n i k)

  pub said-bytes : (n : Name) (i : ℕ) → HasNumber (schema_of x) n i → (AreBytes ((schema_of x).name ++ 46 ∷ n) → ⊥) → ⊥
  said-bytes n i k none =
      let (w, e) = name-of n i k in
      ∥∥₁_elim x.name.spelled never (λ h. ∥∥₁_elim w.spelled never (λ g. none (bytes-joined (schema_of x).name n
      (bytes-of-each x.name.text.now (keyword_each x.name.text.now h)) (subst AreBytes (sym e)
      (bytes-of-each w.text.now (keyword_each w.text.now g))))))

  no-name : (n : Name) (i : ℕ) → HasNumber (schema_of x) n i → (IsKeyword n → ⊥) → ⊥
  no-name n i k none =
      let (w, e) = name-of n i k in
      ∥∥₁_elim w.spelled never (λ g. none (subst IsKeyword (sym e) (upper-keyword w.text.now g)))

  -- what is no word is no name
  pub no-number : (n : Name) → (IsKeyword n → ⊥) → None ≡ number_of (schema_of x) n
  no-number n none = by (number_of (schema_of x) n) refl
    where
      by : (o : Option ℕ) → number_of (schema_of x) n ≡ o → None ≡ number_of (schema_of x) n
      by None e = sym e
      by (Some i) e = absurd (no-name n i e none)

  pub says-in : (text name : List ℕ) (o : Option ℕ) → text ≡ (schema_of x).name ++ 46 ∷ name
      → o ≡ number_of (schema_of x) name → SaysIn (schema_of x) text o
  says-in text name (Some i) e at = (name, e, sym at)
  says-in text name None e at = none
    where
      none : (n : Name) (i : ℕ) → text ≡ (schema_of x).name ++ 46 ∷ n → HasNumber (schema_of x) n i → ⊥
      none n i f k =
          let same = behind-same (schema_of x).name n name (sym f ∙ e) in
          let q = at ∙ ap (number_of (schema_of x)) (sym same) ∙ k in absurd (cc)

-- the front of a text, and what is behind it
upper-take : (n : ℕ) (t : List ℕ) → upper (take n t) ≡ take n (upper t)
upper-take zero t = refl
upper-take (suc n) [] = refl
upper-take (suc n) (b ∷ bs) = ap (λ l. to_ascii_uppercase b ∷ l) (upper-take n bs)

front-is : (spelling n text : List ℕ) → text ≡ upper spelling ++ 46 ∷ n → take (length spelling) text ≡ upper spelling
front-is spelling n text e =
    ap (take (length spelling)) e
    ∙ ap (λ k. take k (upper spelling ++ 46 ∷ n)) (sym (length-map spelling to_ascii_uppercase))
    ∙ take-append_seam (upper spelling) (46 ∷ n)

behind-is : (spelling n text : List ℕ) → text ≡ upper spelling ++ 46 ∷ n → drop (length spelling) text ≡ 46 ∷ n
behind-is spelling n text e =
    ap (drop (length spelling)) e
    ∙ ap (λ k. drop k (upper spelling ++ 46 ∷ n)) (sym (length-map spelling to_ascii_uppercase))
    ∙ drop-append_seam (upper spelling) (46 ∷ n)

pub other-front : (spelling text front : List ℕ) → front ≡ take (length spelling) text
    → (upper front ≡ upper spelling → ⊥) → (n : List ℕ) → text ≡ upper spelling ++ 46 ∷ n → ⊥
other-front spelling text front is none n e =
    none (ap upper (is ∙ front-is spelling n text e) ∙ upper-upper spelling)

-- behind the dot
dot-forth : (rest : List ℕ) → pointwise nat_eq (take 1 rest) (46 ∷ []) ≡ true → rest ≡ 46 ∷ drop 1 rest
dot-forth [] h = absurd (cc)
dot-forth (b ∷ bs) h = by (nat_eq b 46) refl h
  where
    by : (t : Bool) → nat_eq b 46 ≡ t → (t && true) ≡ true → (b ∷ bs) ≡ 46 ∷ bs
    by true e k = let same : b ≡ 46 = grind (arith, nat_tests) in ap (λ x. x ∷ bs) same
    by false e k = absurd (cc)

module _ (spelling text front rest : List ℕ) (cut : front ≡ take (length spelling) text) (left : rest ≡ drop (length spelling) text)
    (capital : upper text ≡ text) (same : upper front ≡ upper spelling) where
  behind-none : pointwise nat_eq (take 1 rest) (46 ∷ []) ≡ false → (n : List ℕ) → text ≡ upper spelling ++ 46 ∷ n
      → ⊥
  behind-none none n e =
      let q : true ≡ false =
      ap (λ l. pointwise nat_eq (take 1 l) (46 ∷ [])) (sym (left ∙ behind-is spelling n text e)) ∙ none in
      absurd (cc)

  behind-some : (name : List ℕ) → pointwise nat_eq (take 1 rest) (46 ∷ []) ≡ true → name ≡ drop 1 rest
      → text ≡ upper spelling ++ 46 ∷ name
  behind-some name has is =
      let front-capital : front ≡ upper spelling =
      cut ∙ ap (take (length spelling)) (sym capital) ∙ sym (upper-take (length spelling) text)
      ∙ ap upper (sym cut) ∙ same in
      let whole : text ≡ front ++ rest =
      sym (take-append-drop (length spelling) text) ∙ ap (λ l. l ++ drop (length spelling) text) (sym cut)
      ∙ ap (λ l. front ++ l) (sym left) in
      whole ∙ ap (λ l. l ++ rest) front-capital ∙ ap (λ l. upper spelling ++ l) (dot-forth rest has)
      ∙ ap (λ l. upper spelling ++ 46 ∷ l) (sym is)

  pub behind-told : {A : Type 0} (o : Option A) (now : A → List ℕ)
      → MatchOption o (pointwise nat_eq (take 1 rest) (46 ∷ []) ≡ false)
      (λ x. (pointwise nat_eq (take 1 rest) (46 ∷ []) ≡ true) × (now x ≡ drop 1 rest)
      × (length (now x) + 1 ≡ length rest))
      → MatchOption o ((n : List ℕ) → text ≡ upper spelling ++ 46 ∷ n → ⊥) (λ x. text ≡ upper spelling ++ 46 ∷ now x)
  behind-told None now h = behind-none h
  behind-told (Some x) now h = behind-some (now x) h.0 h.1

pub behind-capitals : (spelling text name : List ℕ) → upper text ≡ text → text ≡ upper spelling ++ 46 ∷ name
    → upper name ≡ name
behind-capitals spelling text name capital e =
    behind-same (upper spelling) (upper name) name
    (ap (λ l. l ++ 46 ∷ upper name) (sym (upper-upper spelling))
    ∙ sym (map-joined to_ascii_uppercase (upper spelling) (46 ∷ name))
    ∙ ap upper (sym e) ∙ capital ∙ e)

pub no-word : (t : List ℕ) (f : Flaw) (place : ℕ) → IsNoWord t f place → IsKeyword t → ⊥
no-word t BadToken place h = h.0
no-word t _ place h = absurd h
