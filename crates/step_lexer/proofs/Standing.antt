-- A token that is taken, by the bytes before and behind it alone.
use Rattle.std.proofs.Common.{◌≡◌, ℕ, ◌+◌, ◌≤◌, List, [], ◌++◌, length, take, drop, refl, sym, ap, ◌∙◌, subst, arith, length-take, length-drop, length-append, take-append-drop}
use Rattle.std.proofs.lemmas.List.{drop-drop}
use Rattle.step_lexer.specs.declared.token.Token.{Token}
use Rattle.step_lexer.specs.declared.token.Sort.{Sort}
use Rattle.step_literals.specs.Tokens.{IsNext}
use Rattle.step_lexer.specs.Front.{kind_of, HasValue, IsFront}
use Rattle.step_lexer.specs.Layout.{IsLayout, NoBlank}
use Rattle.step_lexer.specs.Reading.{Reading, Takes, left}
use Rattle.step_literals.proofs.Runs.{front_back}
use Rattle.step_lexer.proofs.Closers.{no_blank_at_token}
use Rattle.step_lexer.proofs.ReadingLemmas.{some_bytes}

-- behind layout stands a token with these bytes and this value
pub record Stands (before : List ℕ) (sort : Sort) (t after : List ℕ) : Type 0 where
  pub gap : List ℕ
  pub layout : IsLayout gap
  pub split : before ≡ gap ++ (t ++ after)
  pub next : IsNext (kind_of sort) t after
  pub value : HasValue sort t

-- where a token is taken it stands
module _ (old new : Reading) (token : Token) (h : Takes old token new) where
  rest_of : List ℕ
  rest_of = drop token.place old.text

  behind : left new ≡ drop (length token.text.now) (drop token.place old.text)
  behind = (λ i. drop (h.new_place i) (h.new_text i)) ∙ sym (drop-drop (length token.text.now) token.place old.text)

  pub whole : drop token.place old.text ≡ token.text.now ++ left new
  whole = sym (take-append-drop (length token.text.now) (drop token.place old.text))
      ∙ (λ i. sym h.text i ++ sym behind i)

  pub stands : Stands (left old) token.sort token.text.now (left new)
  stands = record {
    gap = h.reaches.layout.gap;
    layout = h.reaches.layout.layout;
    split = h.reaches.layout.split ∙ ap (λ l. h.reaches.layout.gap ++ l) whole;
    next = subst (λ (p : List ℕ × List ℕ). IsNext (kind_of token.sort) p.0 p.1) (λ i. (sym h.text i, sym behind i))
        h.front.next;
    value = subst (HasValue token.sort) (sym h.text) h.front.value;
  }

  pub stands_at : token.place ≡ old.place + length stands.gap
  unfolding stands
  stands_at =
      omega (
        arith,
        some_bytes (drop token.place old.text) token.sort (length token.text.now) h.front,
        h.front.within,
        ap length h.reaches.layout.split,
        length-append h.reaches.layout.gap (drop token.place old.text),
        length-drop token.place old.text,
        length-drop old.place old.text,
      )

  pub stands_before : new.place ≡ old.place + (length stands.gap + length token.text.now)
  stands_before = omega (arith, stands_at, h.new_place)

-- where a token stands it is taken
abbrev pub token_at : ℕ → Sort → List ℕ → Token
token_at place sort t = record { sort = sort; text = record { ref_ptr = (0, 0); now = t }; place = place }

module _ (text before t after : List ℕ) (place : ℕ) (sort : Sort) (within : place ≤ length text)
    (here : drop place text ≡ before) (h : Stands before sort t after) where
  there : drop (place + length h.gap) text ≡ t ++ after
  there = sym (drop-drop (length h.gap) place text) ∙ (front_back (drop place text) h.gap (t ++ after) (length h.gap)
      (here ∙ h.split) refl).2

  fits : place + (length h.gap + length t) ≤ length text
  fits = omega (
    arith,
    within,
    ap length (here ∙ h.split),
    length-drop place text,
    length-append h.gap (t ++ after),
    length-append t after,
  )

  pub takes : (new : ℕ) → new ≡ place + (length h.gap + length t)
      → Takes (record { text = text; place = place }) (token_at (place + length h.gap) sort t) (record {
        text = text;
        place = new;
      }) × (new ≤ length text) × (drop new text ≡ after)
  takes new at =
      let cut = front_back (drop (place + length h.gap) text) t after (length t) there refl in
      let sum : new ≡ place + length h.gap + length t = omega (arith, at) in (
        record {
          reaches = record {
            within = omega (arith, fits);
            layout = record {
              gap = h.gap;
              layout = h.layout;
              split = here ∙ h.split ∙ ap (λ l. h.gap ++ l) (sym there);
              whole = subst NoBlank (sym there) (no_blank_at_token (kind_of sort) t after h.next.allowed);
            };
          };
          front = record {
            within = cut.0;
            next = subst (λ (p : List ℕ × List ℕ). IsNext (kind_of sort) p.0 p.1) (λ i. (sym cut.1 i, sym cut.2 i))
                h.next;
            value = subst (HasValue sort) (sym cut.1) h.value;
          };
          text = sym cut.1;
          new_text = refl;
          new_place = sum;
        },
        omega (arith, fits, at),
        ap (λ n. drop n text) sum ∙ sym (drop-drop (length t) (place + length h.gap) text) ∙ cut.2,
      )

-- what stands next, with no layout before it, is taken as the token of that sort and length
pub front_taken : (old : Reading) (sort : Sort) (n : ℕ) → old.place ≤ length old.text → IsFront (left old) sort n
    → Takes old (token_at old.place sort (take n (left old))) (record old { place = old.place + n })
front_taken old sort n within f =
    let cut : length (take n (left old)) ≡ n = omega (arith, length-take n (left old), f.within) in
    let h : Stands (left old) sort (take n (left old)) (drop n (left old)) = record {
      gap = [];
      layout = ([], tt, refl);
      split = sym (take-append-drop n (left old));
      next = f.next;
      value = f.value;
    } in
    let at : old.place + 0 ≡ old.place = omega arith in
    subst (λ p. Takes old (token_at p sort (take n (left old))) (record old { place = old.place + n })) at
    (takes old.text (left old) (take n (left old)) (drop n (left old)) old.place sort within refl h (old.place + n)
    (omega (arith, cut))).0
