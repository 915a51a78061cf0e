-- Layout.
use Rattle.std.proofs.Common.{◌≡◌, ℕ, ◌+◌, ◌≤◌, ◌<◌, List, [], ◌∷◌, ◌++◌, length, get_or, take, drop, refl, sym, ap, ◌∙◌, arith, append_assoc, length-append, take-append-drop, Some, codes, append-nil, subst, map}
use Rattle.std.specs.Char.{to_ascii_lowercase}
use Rattle.std.proofs.lemmas.List.{length-map}
use Rattle.std.proofs.lemmas.Bool.Decides.{nat_tests}
use Rattle.std.specs.List.{AllByRecursion}
use Rattle.std.proofs.Math.ListN.{length-take}
use Rattle.std.proofs.lemmas.List.{get_or-take}
use Rattle.memchr.specs.Find.{FindsNeedle, OccursAt, Nowhere}
use Rattle.step_literals.specs.Tokens.{Says}
use Rattle.step_lexer.specs.Layout.{Blank, space, new_line, form_feed, comment, SpellsBlank, IsBlank, NoBlank, joined}
use Rattle.step_literals.proofs.Runs.{front_back}
use Rattle.step_lexer.proofs.WordLemmas.{taken}

abbrev pub star_slash : List ℕ
star_slash = 42 ∷ 47 ∷ []

front_get : (xs ys : List ℕ) (i : ℕ) → i < length xs → get_or (xs ++ ys) i 0 ≡ get_or xs i 0
front_get xs ys i lt =
    let cut = front_back (xs ++ ys) xs ys (length xs) refl refl in
    sym (get_or-take (length xs) (xs ++ ys) i 0 lt) ∙ ap (λ l. get_or l i 0) cut.1

-- what occurs in a front occurs in the whole
occurs_on : (xs ys needle : List ℕ) (k : ℕ) → OccursAt xs needle k → OccursAt (xs ++ ys) needle k
occurs_on xs ys needle k h = record {
  fits = omega (arith, h.fits, length-append xs ys);
  reads = λ j lt. front_get xs ys (k + j) (omega (arith, h.fits, lt)) ∙ h.reads j lt;
}

-- what occurs in a front with room for it occurs there
occurs_back : (xs ys needle : List ℕ) (k : ℕ) → k + length needle ≤ length xs → OccursAt (xs ++ ys) needle k
    → OccursAt xs needle k
occurs_back xs ys needle k fits h = record {
  fits = fits;
  reads = λ j lt. sym (front_get xs ys (k + j) (omega (arith, fits, lt))) ∙ h.reads j lt;
}

-- where nothing is found, nothing is found in a front
pub none_in_front : (r more : List ℕ) (k : ℕ) → Nowhere (OccursAt (r ++ more) star_slash) 0 (length (r ++ more) + 1)
    → FindsNeedle r star_slash 0 (Some k) → ⊥
none_in_front r more k none found = none k (omega arith) (omega (arith, found.0.high, length-append r more))
    (occurs_on r more star_slash k found.1)

-- what is found first is found first in the front that it ends
pub found_in_front : (xs ys : List ℕ) (k : ℕ) → k + 2 ≡ length xs → FindsNeedle (xs ++ ys) star_slash 0 (Some k)
    → FindsNeedle xs star_slash 0 (Some k)
found_in_front xs ys k len found = (
  record {
    low = omega arith;
    high = omega (arith, len);
    before = λ j lo lt at. found.0.before j lo lt (occurs_on xs ys star_slash j at);
  },
  occurs_back xs ys star_slash k
      (omega (arith, len)) found.1,
)

-- the comment that the code finds
pub comment_at : (l rest : List ℕ) (k : ℕ) → l ≡ 47 ∷ 42 ∷ rest → FindsNeedle rest star_slash 0 (Some k) → (0 < k + 4)
    × (k + 4 ≤ length l) × IsBlank (take (k + 4) l)
comment_at l rest k e found =
    let fits : k + 2 ≤ length rest = found.1.fits in
    let xs = take (k + 2) rest in let ys = drop (k + 2) rest in
    let len : k + 2 ≡ length xs = omega (arith, length-take (k + 2) rest, fits) in
    let whole : xs ++ ys ≡ rest = take-append-drop (k + 2) rest in
    let inner : FindsNeedle xs star_slash 0 (Some k) = found_in_front xs ys k len (rw whole found) in
    let cut = front_back l (47 ∷ 42 ∷ xs) ys (k + 4) (e ∙ ap (λ x. 47 ∷ 42 ∷ x) (sym whole)) (omega (arith, len)) in
    (omega arith, cut.0, rw cut.1 (comment, (xs, k, refl, inner, len)))

no_blank_of : (l : List ℕ) → 32 < get_or l 0 0 → (Says (codes "\\N\\") (take 3 l) → ⊥)
    → (Says (codes "\\F\\") (take 3 l) → ⊥)
    → ((r more : List ℕ) (k : ℕ) → l ≡ 47 ∷ 42 ∷ (r ++ more) → FindsNeedle r star_slash 0 (Some k) → ⊥)
    → (kind : Blank) (t rest : List ℕ) → l ≡ t ++ rest → SpellsBlank kind t → ⊥
no_blank_of l b n f c space t rest e s = omega (arith, ap (λ x. get_or x 0 0) (e ∙ ap (λ x. x ++ rest) s.2), s.1)
no_blank_of l b n f c new_line t rest e s = n (taken 3 (codes "\\N\\") l t rest refl s (sym e))
no_blank_of l b n f c form_feed t rest e s = f (taken 3 (codes "\\F\\") l t rest refl s (sym e))
no_blank_of l b n f c comment t rest e s = c s.0 rest s.1 (e ∙ ap (λ x. x ++ rest) s.2) s.3

pub no_blank : (l : List ℕ) → 32 < get_or l 0 0 → (Says (codes "\\N\\") (take 3 l) → ⊥)
    → (Says (codes "\\F\\") (take 3 l) → ⊥)
    → ((r more : List ℕ) (k : ℕ) → l ≡ 47 ∷ 42 ∷ (r ++ more) → FindsNeedle r star_slash 0 (Some k) → ⊥) → NoBlank l
no_blank l b n f c t rest e is = no_blank_of l b n f c is.0 t rest e is.1

pub opens : (l rest : List ℕ) → 2 ≤ length l → get_or l 0 0 ≡ 47 → get_or l 1 0 ≡ 42 → rest ≡ drop 2 l → l ≡ 47 ∷ 42
    ∷ rest
opens [] rest h a b e = absurd (omega (arith, h))
opens (x ∷ []) rest h a b e = absurd (omega (arith, h))
opens (x ∷ y ∷ ys) rest h a b e = (λ i. a i ∷ b i ∷ sym e i)

-- where no comment opens
pub not_opened : (l r more : List ℕ) (k : ℕ) → ((2 ≤ length l) × (get_or l 0 0 ≡ 47) × (get_or l 1 0 ≡ 42) → ⊥) → l ≡ 47
    ∷ 42 ∷ (r ++ more) → FindsNeedle r star_slash 0 (Some k) → ⊥
not_opened l r more k h e found = h (omega (arith, ap length e), ap (λ x. get_or x 0 0) e, ap (λ x. get_or x 1 0) e)

pub not_closed : (l rest r more : List ℕ) (k : ℕ) → l ≡ 47 ∷ 42 ∷ rest → Nowhere (OccursAt rest star_slash) 0
    (length rest + 1) → l ≡ 47 ∷ 42 ∷ (r ++ more) → FindsNeedle r star_slash 0 (Some k) → ⊥
not_closed l rest r more k o none e found =
    let two : 47 ∷ 42 ∷ (r ++ more) ≡ 47 ∷ 42 ∷ rest = sym e ∙ o in
    let same : r ++ more ≡ rest = cc in
    none_in_front r more k (rw same none) found

joined_push : (us : List (List ℕ)) (u : List ℕ) → joined (us ++ u ∷ []) ≡ joined us ++ u
joined_push [] u = append-nil u
joined_push (x ∷ xs) u = ap (λ l. x ++ l) (joined_push xs u) ∙ sym (append_assoc x (joined xs) u)

all_push : (us : List (List ℕ)) (u : List ℕ) → AllByRecursion IsBlank us → IsBlank u
    → AllByRecursion IsBlank (us ++ u ∷ [])
all_push [] u h b = (b, tt)
all_push (x ∷ xs) u h b = (h.0, all_push xs u h.1 b)

pub one_more : (bytes rest next : List ℕ) (us : List (List ℕ)) (len n : ℕ) → AllByRecursion IsBlank us
    → bytes ≡ joined us ++ rest → len ≡ length (joined us) → n ≤ length rest → IsBlank (take n rest)
    → next ≡ drop n rest
    → (vs : List (List ℕ)) × AllByRecursion IsBlank vs × (bytes ≡ joined vs ++ next) × (len + n ≡ length (joined vs))
one_more bytes rest next us len n all e count fits blank hn =
    let u = take n rest in let j = joined_push us u in (
      us ++ u ∷ [],
      all_push us u all blank,
      e ∙ ap (λ l. joined us ++ l) (sym (take-append-drop n rest) ∙ ap (λ l. u ++ l) (sym hn))
          ∙ sym (append_assoc (joined us) u next) ∙ ap (λ l. l ++ next) (sym j),
      omega (arith, ap length j, count, length-append (joined us) u, length-take n rest, fits),
    )

-- two blanks that begin at one place are one
head_is : (b : ℕ) (t u r s : List ℕ) → t ++ r ≡ u ++ s → 0 < length t → get_or t 0 0 ≡ b → 0 < length u
    → get_or u 0 0 ≡ b
head_is b [] u r s e p h q = absurd (omega (arith, p))
head_is b (x ∷ xs) [] r s e p h q = absurd (omega (arith, q))
head_is b (x ∷ xs) (y ∷ ys) r s e p h q = let k : x ≡ y = cc in sym k ∙ h

said : (word t u r s : List ℕ) → Says word t → Says word u → t ++ r ≡ u ++ s → t ≡ u
said word t u r s h g e =
    let lt : length t ≡ length word = omega (
      arith,
      ap length h,
      length-map t to_ascii_lowercase,
      length-map word to_ascii_lowercase,
    ) in
    let lu : length u ≡ length word = omega (
      arith,
      ap length g,
      length-map u to_ascii_lowercase,
      length-map word to_ascii_lowercase,
    ) in
    let ft = front_back (t ++ r) t r (length word) refl (sym lt) in
    let fu = front_back (t ++ r) u s (length word) e (sym lu) in
    sym ft.1 ∙ fu.1

first_at : (x y r s : List ℕ) (k j : ℕ) → FindsNeedle x star_slash 0 (Some k) → FindsNeedle y star_slash 0 (Some j)
    → j + 2 ≡ length y → x ++ r ≡ y ++ s → k < j → ⊥
first_at x y r s k j h g len e lt =
    let on : OccursAt (y ++ s) star_slash k = subst (λ l. OccursAt l star_slash k) e (occurs_on x r star_slash k h.1) in
    g.0.before k (omega arith) lt (occurs_back y s star_slash k (omega (arith, len, lt)) on)

same_place : (x y r s : List ℕ) (k j : ℕ) → FindsNeedle x star_slash 0 (Some k) → FindsNeedle y star_slash 0 (Some j)
    → k + 2 ≡ length x → j + 2 ≡ length y → x ++ r ≡ y ++ s → x ≡ y
same_place x y r s k j h g lx ly e =
    let apart_1 : k < j → ⊥ = first_at x y r s k j h g ly e in
    let apart_2 : j < k → ⊥ = first_at y x s r j k g h lx (sym e) in
    let len : length x ≡ length y = omega (arith, lx, ly, apart_1, apart_2) in
    let fx = front_back (x ++ r) x r (length y) refl (sym len) in
    let fy = front_back (x ++ r) y s (length y) e refl in
    sym fx.1 ∙ fy.1

lower_one : (b : ℕ) → to_ascii_lowercase b ≡ 92 → b ≡ 92
lower_one b h = grind (arith, nat_tests)

-- a blank that is a directive begins with a backslash
directive_head : (x y z : ℕ) (t : List ℕ) → map to_ascii_lowercase t ≡ x ∷ y ∷ z ∷ [] → x ≡ 92 → (0 < length t)
    × (get_or t 0 0 ≡ 92)
directive_head x y z [] h e = absurd (cc)
directive_head x y z (b ∷ bs) h e = (omega arith, lower_one b (let q : to_ascii_lowercase b ≡ x = cc in q ∙ e))

not_both : (t : List ℕ) → Says (codes "\\N\\") t → Says (codes "\\F\\") t → ⊥
not_both t h g =
    let a : map to_ascii_lowercase t ≡ map to_ascii_lowercase (codes "\\N\\") = h in
    let b : map to_ascii_lowercase t ≡ map to_ascii_lowercase (codes "\\F\\") = g in
    omega (arith, ap (λ l. get_or l 1 0) (sym a ∙ b))

other_letter : (v w t u r s : List ℕ) → length v ≡ length w → Says v t → Says w u → t ++ r ≡ u ++ s → t ≡ u
other_letter v w t u r s len h g e =
    let lt : length t ≡ length w = omega (
      arith,
      len,
      ap length h,
      length-map t to_ascii_lowercase,
      length-map v to_ascii_lowercase,
    ) in
    let lu : length u ≡ length w = omega (
      arith,
      ap length g,
      length-map u to_ascii_lowercase,
      length-map w to_ascii_lowercase,
    ) in
    let ft = front_back (t ++ r) t r (length w) refl (sym lt) in
    let fu = front_back (t ++ r) u s (length w) e (sym lu) in
    sym ft.1 ∙ fu.1

-- the first byte of a blank
pub blank_head : (k : Blank) (t : List ℕ) → SpellsBlank k t → (0 < length t)
    × (elim k as (λ _. Type 0) [
      | space ↦ get_or t 0 0 ≤ 32
      | new_line ↦ get_or t 0 0 ≡ 92
      | form_feed ↦ get_or t 0
          0 ≡ 92
      | comment ↦ get_or t 0 0 ≡ 47
    ])
blank_head space t h = (omega (arith, ap length h.2), omega (arith, ap (λ l. get_or l 0 0) h.2, h.1))
blank_head new_line t h = directive_head 92 110 92 t h refl
blank_head form_feed t h = directive_head 92 102 92 t h refl
blank_head comment t h = (omega (arith, ap length h.2), ap (λ l. get_or l 0 0) h.2)

heads_same : (t u r s : List ℕ) → t ++ r ≡ u ++ s → 0 < length t → 0 < length u → get_or u 0 0 ≡ get_or t 0 0
heads_same t u r s e p q = head_is (get_or t 0 0) t u r s e p refl q

blank_unique : (k j : Blank) (t u r s : List ℕ) → SpellsBlank k t → SpellsBlank j u → t ++ r ≡ u ++ s → t ≡ u
blank_unique space space t u r s h g e =
    let a : h.0 ∷ r ≡ g.0 ∷ s = ap (λ l. l ++ r) (sym h.2) ∙ e ∙ ap (λ l. l ++ s) g.2 in
    let q : h.0 ≡ g.0 = cc in h.2 ∙ ap (λ b. b ∷ []) q ∙ sym g.2
blank_unique new_line new_line t u r s h g e = said (codes "\\N\\") t u r s h g e
blank_unique form_feed form_feed t u r s h g e = said (codes "\\F\\") t u r s h g e
blank_unique new_line form_feed t u r s h g e = let q = other_letter (codes "\\N\\") (codes "\\F\\") t u r s refl h g e
    in absurd (not_both u (subst (Says (codes "\\N\\")) q h) g)
blank_unique form_feed new_line t u r s h g e = let q = other_letter (codes "\\F\\") (codes "\\N\\") t u r s refl h g e
    in absurd (not_both u g (subst (Says (codes "\\F\\")) q h))
blank_unique comment comment t u r s h g e =
    let a : 47 ∷ 42 ∷ (h.0 ++ r) ≡ 47 ∷ 42 ∷ (g.0 ++ s) = ap (λ l. l ++ r) (sym h.2) ∙ e ∙ ap (λ l. l ++ s) g.2 in
    let q : h.0 ++ r ≡ g.0 ++ s = cc in
    h.2 ∙ ap (λ l. 47 ∷ 42 ∷ l) (same_place h.0 g.0 r s h.1 g.1 h.3 g.3 h.4 g.4 q) ∙ sym g.2
blank_unique space new_line t u r s h g e = let a = blank_head space t h in let b = blank_head new_line u g in
    absurd (omega (arith, a.1, b.1, heads_same t u r s e a.0 b.0))
blank_unique space form_feed t u r s h g e = let a = blank_head space t h in let b = blank_head form_feed u g in
    absurd (omega (arith, a.1, b.1, heads_same t u r s e a.0 b.0))
blank_unique space comment t u r s h g e = let a = blank_head space t h in let b = blank_head comment u g in
    absurd (omega (arith, a.1, b.1, heads_same t u r s e a.0 b.0))
blank_unique new_line space t u r s h g e = let a = blank_head new_line t h in let b = blank_head space u g in
    absurd (omega (arith, a.1, b.1, heads_same t u r s e a.0 b.0))
blank_unique form_feed space t u r s h g e = let a = blank_head form_feed t h in let b = blank_head space u g in
    absurd (omega (arith, a.1, b.1, heads_same t u r s e a.0 b.0))
blank_unique comment space t u r s h g e = let a = blank_head comment t h in let b = blank_head space u g in
    absurd (omega (arith, a.1, b.1, heads_same t u r s e a.0 b.0))
blank_unique new_line comment t u r s h g e = let a = blank_head new_line t h in let b = blank_head comment u g in
    absurd (omega (arith, a.1, b.1, heads_same t u r s e a.0 b.0))
blank_unique form_feed comment t u r s h g e = let a = blank_head form_feed t h in let b = blank_head comment u g in
    absurd (omega (arith, a.1, b.1, heads_same t u r s e a.0 b.0))
blank_unique comment new_line t u r s h g e = let a = blank_head comment t h in let b = blank_head new_line u g in
    absurd (omega (arith, a.1, b.1, heads_same t u r s e a.0 b.0))
blank_unique comment form_feed t u r s h g e = let a = blank_head comment t h in let b = blank_head form_feed u g in
    absurd (omega (arith, a.1, b.1, heads_same t u r s e a.0 b.0))

-- layout that is taken whole leaves one rest
pub one_rest : (us vs : List (List ℕ)) (a b : List ℕ) → AllByRecursion IsBlank us → AllByRecursion IsBlank vs
    → joined us ++ a ≡ joined vs ++ b → NoBlank a → NoBlank b → a ≡ b
one_rest [] [] a b hu hv e na nb = e
one_rest [] (v ∷ vs) a b hu hv e na nb = absurd (na v (joined vs ++ b) (e ∙ append_assoc v (joined vs) b) hv.0)
one_rest (u ∷ us) [] a b hu hv e na nb = absurd (nb u (joined us ++ a) (sym e ∙ append_assoc u (joined us) a) hu.0)
one_rest (u ∷ us) (v ∷ vs) a b hu hv e na nb =
    let e' : u ++ (joined us ++ a) ≡ v ++ (joined vs ++ b) = sym (append_assoc u (joined us) a) ∙ e
    ∙ append_assoc v (joined vs) b in
    let same : u ≡ v = blank_unique hu.0.0 hv.0.0 u v (joined us ++ a) (joined vs ++ b) hu.0.1 hv.0.1 e' in
    let fu = front_back (u ++ (joined us ++ a)) u (joined us ++ a) (length u) refl refl in
    let fv = front_back (u ++ (joined us ++ a)) v (joined vs ++ b) (length u) e' (ap length same) in
    one_rest us vs a b hu.1 hv.1 (sym fu.2 ∙ fv.2) na nb
