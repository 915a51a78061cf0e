-- Where a string ends.
use Rattle.std.proofs.Common.{◌≡◌, ℕ, ◌+◌, ◌≤◌, ◌<◌, Bool, true, false, not, cond, List, [], ◌∷◌, ◌++◌, length, get_or, take, drop, refl, sym, ap, ◌∙◌, arith, append_assoc, length-append}
use Rattle.std.specs.Prelude.{◌==◌}
use Rattle.std.proofs.lemmas.Bool.{false≢true}
use Rattle.std.proofs.lemmas.Bool.Decides.{nat_tests}
use Rattle.std.proofs.Math.ListN.{length-take}
use Rattle.step_literals.proofs.Runs.{front_back}
use Rattle.step_literals.proofs.Found.{Found, before_found, at_found}
use Rattle.step_literals.specs.Bytes.{Each, Stops}
use Rattle.step_literals.specs.Tokens.{TokenKind, string, doubled, Allows, IsNext, NoneAt}
use Rattle.step_literals.proofs.Longest.{apostrophe, group, first_group, same_group}

abbrev pub is_quote : ℕ → Bool
is_quote b = b == 39

abbrev pub no_quote : ℕ → Bool
no_quote b = not (b == 39)

quote_is : (b : ℕ) → is_quote b ≡ true → b ≡ 39
quote_is b h = grind (arith, nat_tests)

-- one byte, doubled where it is an apostrophe, and what follows
abbrev one : ℕ → List ℕ → Bool → List ℕ
one b rest t = cond t (39 ∷ 39 ∷ rest) (b ∷ rest)

stops_quote : (r more : List ℕ) → Stops is_quote r → r ≡ 39 ∷ more → ⊥
stops_quote [] more h e = cc
stops_quote (x ∷ xs) more h e = let q : x ≡ 39 = cc in false≢true (sym h ∙ ap is_quote q)

-- an apostrophe that ends a string is no doubled one
ends_here : (r l t : List ℕ) (y : ℕ) (q : Bool) → is_quote y ≡ q → Stops is_quote r → 39 ∷ r ≡ one y l q ++ t → ⊥
ends_here r l t y true h stop e = stops_quote r (l ++ t) stop (let q : r ≡ 39 ∷ (l ++ t) = cc in q)
ends_here r l t y false h stop e = let q : y ≡ 39 = cc in false≢true (sym h ∙ ap is_quote q)

both : (x y : ℕ) (l m t u : List ℕ) (p q : Bool) → is_quote x ≡ p → is_quote y ≡ q → one x l p ++ t ≡ one y m q ++ u
    → (l ++ t ≡ m ++ u) × (p ≡ q) × (x ≡ y)
both x y l m t u true true hx hy e = (cc, refl, quote_is x hx ∙ sym (quote_is y hy))
both x y l m t u true false hx hy e = let h : y ≡ 39 = cc in absurd (false≢true (sym hy ∙ ap is_quote h))
both x y l m t u false true hx hy e = let h : x ≡ 39 = cc in absurd (false≢true (sym hx ∙ ap is_quote h))
both x y l m t u false false hx hy e = (cc, refl, cc)

-- two strings that begin at one place end at one place
pub unique : (c d r s : List ℕ) → Stops is_quote r → Stops is_quote s → doubled c ++ 39 ∷ r ≡ doubled d ++ 39 ∷ s
    → c ≡ d
unique [] [] r s hr hs e = refl
unique [] (y ∷ ys) r s hr hs e = absurd (ends_here r (doubled ys) (39 ∷ s) y (is_quote y) refl hr e)
unique (x ∷ xs) [] r s hr hs e = absurd (ends_here s (doubled xs) (39 ∷ r) x (is_quote x) refl hs (sym e))
unique (x ∷ xs) (y ∷ ys) r s hr hs e =
    let h = both x y (doubled xs) (doubled ys) (39 ∷ r) (39 ∷ s) (is_quote x) (is_quote y) refl refl e in
    let rest = unique xs ys r s hr hs h.0 in let same = h.2 in cc

each_right : (p : ℕ → Bool) (xs ys : List ℕ) → Each p (xs ++ ys) → Each p ys
each_right p [] ys h = h
each_right p (x ∷ xs) ys h = each_right p xs ys h.1

-- where no apostrophe is left, no string ends
pub unended : (c d r t : List ℕ) → Stops is_quote r → Each no_quote t → doubled c ++ 39 ∷ r ≡ doubled d ++ t → ⊥
unended c [] r t hr ht e = let h : Each no_quote (doubled c ++ 39 ∷ r) = rw e ht in
    false≢true (each_right no_quote (doubled c) (39 ∷ r) h).0
unended [] (y ∷ ys) r t hr ht e = ends_here r (doubled ys) t y (is_quote y) refl hr e
unended (x ∷ xs) (y ∷ ys) r t hr ht e =
    unended xs ys r t hr ht (both x y (doubled xs) (doubled ys) (39 ∷ r) t (is_quote x) (is_quote y) refl refl e).0

plain : (b : ℕ) (l : List ℕ) (t : Bool) → is_quote b ≡ t → not t ≡ true → one b l t ≡ b ∷ l
plain b l true h e = absurd (false≢true e)
plain b l false h e = refl

-- bytes that are no apostrophes are spelled by themselves
pub doubled-plain : (bs : List ℕ) → Each no_quote bs → doubled bs ≡ bs
doubled-plain [] h = refl
doubled-plain (b ∷ bs) h = plain b (doubled bs) (is_quote b) refl h.0 ∙ ap (λ l. b ∷ l) (doubled-plain bs h.1)

one_append : (b : ℕ) (l t : List ℕ) (q : Bool) → one b (l ++ t) q ≡ one b l q ++ t
one_append b l t true = refl
one_append b l t false = refl

pub doubled-append : (xs ys : List ℕ) → doubled (xs ++ ys) ≡ doubled xs ++ doubled ys
doubled-append [] ys = refl
doubled-append (x ∷ xs) ys = ap (λ l. one x l (is_quote x)) (doubled-append xs ys) ∙ one_append x (doubled xs)
    (doubled ys) (is_quote x)

longest_string : (content after : List ℕ) → Stops is_quote after → (k : TokenKind) (other rest : List ℕ)
    → group k ≡ apostrophe → Allows k other rest → other ++ rest ≡ (39 ∷ doubled content ++ 39 ∷ []) ++ after
    → length other ≤ length (39 ∷ doubled content ++ 39 ∷ [])
longest_string content after stop string other rest g a e =
    let left : 39 ∷ (doubled a.0.0 ++ (39 ∷ rest)) ≡ 39 ∷ (doubled content ++ (39 ∷ after)) =
    (simp append_assoc at (ap (λ l. l ++ rest) (sym a.0.1))) ∙ e ∙ simp append_assoc in
    let tail : doubled a.0.0 ++ 39 ∷ rest ≡ doubled content ++ 39 ∷ after = cc in
    let same = unique a.0.0 content rest after a.1 stop tail in
    omega (arith, ap length a.0.1, ap (λ c. length (doubled c ++ 39 ∷ [])) same, length-append {A = ℕ})
longest_string content after stop _ other rest g a e = absurd (cc)

pub next_string : (content after : List ℕ) → Stops is_quote after → IsNext string (39 ∷ doubled content ++ 39 ∷ [])
    after
next_string content after stop =
    let t = 39 ∷ doubled content ++ 39 ∷ [] in
    let own : Allows string t after = ((content, refl), stop) in
    record {
      allowed = own;
      longest = λ k other rest e a. longest_string content after stop k other rest
          (same_group string k t after other rest own a e) a e;
    }

string_none_of : (content left : List ℕ) → Each no_quote left → (k : TokenKind) (other rest : List ℕ)
    → group k ≡ apostrophe → Allows k other rest → 39 ∷ (doubled content ++ left) ≡ other ++ rest → ⊥
string_none_of content left none string other rest g a e =
    let q : 39 ∷ (doubled a.0.0 ++ (39 ∷ rest)) ≡ 39 ∷ (doubled content ++ left) =
    (simp append_assoc at (ap (λ l. l ++ rest) (sym a.0.1))) ∙ sym e in
    let tail : doubled a.0.0 ++ 39 ∷ rest ≡ doubled content ++ left = cc in
    unended a.0.0 content rest left a.1 none tail
string_none_of content left none _ other rest g a e = cc

pub string_none : (content left : List ℕ) → Each no_quote left → NoneAt (39 ∷ (doubled content ++ left))
string_none content left none k other rest e a =
    let g : group k ≡ apostrophe = (let p = first_group k other rest (39 ∷ (doubled content ++ left)) a (sym e) in cc)
    in
    string_none_of content left none k other rest g a e

head_tail : (after next : List ℕ) → 0 < length after → get_or after 0 0 ≡ 39 → next ≡ drop 1 after → after ≡ 39 ∷ next
head_tail [] next h q e = absurd (omega (arith, h))
head_tail (x ∷ xs) next h q e = (λ i. q i ∷ sym e i)

module _ (bytes rest content : List ℕ) (len at : ℕ) (whole : bytes ≡ 39 ∷ (doubled content ++ rest))
    (counted : len ≡ 1 + length (doubled content)) (found : Found 39 rest at) where
  passed : bytes ≡ 39 ∷ (doubled (content ++ take at rest) ++ 39 ∷ drop (at + 1) rest)
  passed =
      whole ∙ ap (λ l. 39 ∷ (doubled content ++ l)) (at_found 39 rest at found)
      ∙ ap (λ l. 39 ∷ l) (sym (append_assoc (doubled content) (take at rest) (39 ∷ drop (at + 1) rest))
      ∙ ap (λ l. l ++ 39 ∷ drop (at + 1) rest)
      (ap (λ l. doubled content ++ l) (sym (doubled-plain (take at rest) (before_found 39 rest at found)))
      ∙ sym (doubled-append content (take at rest))))

  count : length (doubled (content ++ take at rest)) ≡ length (doubled content) + at
  count = ap length (doubled-append content (take at rest) ∙ ap (λ l. doubled content ++ l)
      (doubled-plain (take at rest) (before_found 39 rest at found)))
      ∙ omega (arith, length-append (doubled content) (take at rest), length-take at rest, found.0.high)

  pub string_ends : (after : List ℕ) → after ≡ drop (at + 1) rest → Stops is_quote after
      → (len + (at + 1) ≤ length bytes) × IsNext string (take (len + (at + 1)) bytes) (drop (len + (at + 1)) bytes)
  string_ends after ha stop =
      let t = 39 ∷ doubled (content ++ take at rest) ++ 39 ∷ [] in
      let e : bytes ≡ t ++ after = passed
      ∙ ap (λ l. 39 ∷ l) (sym (append_assoc (doubled (content ++ take at rest)) (39 ∷ []) (drop (at + 1) rest)))
      ∙ ap (λ l. t ++ l) (sym ha) in
      let cut = front_back bytes t after (len + (at + 1)) e
      (omega (arith, count, counted, length-append (doubled (content ++ take at rest)) (39 ∷ []))) in
      (cut.0, rw (cut.1, cut.2) (next_string (content ++ take at rest) after stop))

  pub string_goes_on : (after next : List ℕ) → after ≡ drop (at + 1) rest → 0 < length after → get_or after 0 0 ≡ 39
      → next ≡ drop 1 after → (c : List ℕ) × (bytes ≡ 39 ∷ (doubled c ++ next))
      × (len + (at + 1) + 1 ≡ 1 + length (doubled c))
  string_goes_on after next ha some quote hn =
      let c = content ++ take at rest in
      let split : drop (at + 1) rest ≡ 39 ∷ next = sym ha ∙ head_tail after next some quote hn in
      let twice : doubled (c ++ 39 ∷ []) ≡ doubled c ++ 39 ∷ 39 ∷ [] = doubled-append c (39 ∷ []) in (
        c ++ 39 ∷ [],
        passed ∙ ap (λ l. 39 ∷ (doubled c ++ 39 ∷ l)) split
            ∙ ap (λ l. 39 ∷ l) (sym (ap (λ l. l ++ next) twice ∙ append_assoc (doubled c) (39 ∷ 39 ∷ []) next)),
        omega (arith, count, counted, ap length twice, length-append {A = ℕ}),
      )
