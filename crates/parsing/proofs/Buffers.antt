-- A buffer with a column from its front and a stack downwards from its end.
use Rattle.std.proofs.Common.{◌≡◌, ◌<◌, ◌≤◌, ◌+◌, ◌-◌, ℕ, List, [], ◌∷◌, ◌++◌, length, take, drop, set, reverse, sym, ◌∙◌, ap, arith, length-append, length-drop, append-nil, append_assoc, get_or, refl, subst}
use Rattle.std.proofs.lemmas.List.{length-take-le, length-reverse, reverse-append, take-append-le, drop-append-le, take-append-drop, take-take, take_at, drop_at, drop-drop, drop_all, take-set-le, take_more_set, drop-set, drop-set-lt, take_all, drop-take, take_more, get_or-drop, get_or-reverse, get_or-take, length-set}
use Rattle.std.proofs.Math.Seq.{take-add}
use Rattle.std.proofs.lemmas.List.Edits.{take-paste, drop-paste}
use Rattle.std.specs.List.{copy_within}
use borrow.Rule.Slice.PartMut.{put_mid}
use Rattle.parsing.specs.steps.Cells.{Cells}
use Rattle.parsing.specs.steps.Gaps.{Frees}
use Rattle.parsing.specs.steps.Closing.{Closes}

module _ {C : Type 0} where
  -- what a buffer shows
  abbrev pub seen : List C → ℕ → ℕ → Cells C
  seen xs len top = record { column = take len xs; pending = reverse (drop top xs) }

  -- how many cells are pending
  pub pending_len : (xs : List C) (len top : ℕ) (s : Cells C) → seen xs len top ≡ s → length xs - top ≡ length s.pending
  pending_len xs len top s e = sym (length-reverse (drop top xs) ∙ length-drop top xs)
      ∙ ap (λ (t : Cells C). length t.pending) e

  -- the cells behind a place stand so many places further up, those before another as they stood
  pub record Moved (old : List C) (end by : ℕ) (now : List C) : Type 0 where
    pub size : length now ≡ length old
    pub front : take end now ≡ take end old
    pub behind : drop (end + by) now ≡ take (length old - by - end) (drop end old)

  pub moved_begin : (old : List C) (by : ℕ) → by ≤ length old → Moved old (length old - by) by old
  moved_begin old by l =
      let all : (length old - by) + by ≡ length old = omega (arith, l) in
      let none : length old - by - (length old - by) ≡ 0 = omega arith in
      record {
        size = refl;
        front = refl;
        behind = ap (λ k. drop k old) all ∙ drop_all (length old) old (omega arith)
            ∙ ap (λ k. take k (drop (length old - by) old)) (sym none);
      }

  -- what stands from a place on is what stands up to another, and from there on
  two_parts : (n m s : ℕ) (l : List C) → take n (drop s l) ++ take m (drop (s + n) l) ≡ take (n + m) (drop s l)
  two_parts n m s l = ap (λ x. take n (drop s l) ++ take m x) (sym (drop-drop n s l)) ∙ sym (take-add n m (drop s l))

  pub moved_next : (old : List C) (from end by : ℕ) (now : List C) → from ≤ end → end + by ≤ length old
      → Moved old end by now → Moved old from by (copy_within now from end (from + by))
  moved_next old from end by now up within h =
      let n = end - from in
      let to = from + by in
      let same : length now ≡ length old = h.size in
      let up_to : from + n ≡ end = omega (arith, up) in
      let last : to + n ≡ end + by = omega (arith, up) in
      let low : length (take to now) ≡ to = length-take-le to now (omega (arith, same, within, up)) in
      let rest : length (drop from now) ≡ length now - from = length-drop from now in
      let piece : length (take n (drop from now)) ≡ n =
      length-take-le n (drop from now) (omega (arith, rest, same, within, up)) in
      let tail : length (drop (to + n) now) ≡ length now - (to + n) = length-drop (to + n) now in
      let ends : length ((take to now ++ take n (drop from now)) ++ drop (to + n) now)
      ≡ length (take to now ++ take n (drop from now)) + length (drop (to + n) now) =
      length-append (take to now ++ take n (drop from now)) (drop (to + n) now) in
      let begins : length (take to now ++ take n (drop from now))
      ≡ length (take to now) + length (take n (drop from now)) =
      length-append (take to now) (take n (drop from now)) in
      let grouped = append_assoc (take to now) (take n (drop from now)) (drop (to + n) now) in
      let moved : take n (drop from now) ≡ take n (drop from old) =
      sym (drop-take from n now)
      ∙ ap (drop from) (ap (λ k. take k now) up_to ∙ h.front ∙ sym (ap (λ k. take k old) up_to))
      ∙ drop-take from n old in
      let further : drop (to + n) now ≡ take (length old - by - end) (drop (from + n) old) =
      ap (λ k. drop k now) last ∙ h.behind ∙ ap (λ k. take (length old - by - end) (drop k old)) (sym up_to) in
      let more : n + (length old - by - end) ≡ length old - by - from = omega (arith, up, within) in
      record {
        size = ends ∙ omega (arith, begins, low, piece, tail, same, last, within);
        front = ap (take from) grouped
            ∙ take-append-le from (take to now) (take n (drop from now) ++ drop (to + n) now) (omega (arith, low))
            ∙ take-take from to now (omega arith) ∙ sym (take-take from end now up) ∙ ap (take from) h.front
            ∙ take-take from end old up;
        behind = ap (drop to) grouped ∙ drop_at (take to now) (take n (drop from now) ++ drop (to + n) now) to low
            ∙ (λ i. moved i ++ further i)
            ∙ two_parts n (length old - by - end) from old ∙ ap (λ k. take k (drop from old)) more;
      }

  -- free cells are put behind a buffer, and what stood from a place on is moved over them
  pub widened : (old more new : List C) (top free : ℕ) → top ≤ length old → 0 < free → length more ≡ free
      → length new ≡ length (old ++ more) → take top new ≡ take top (old ++ more)
      → drop (top + free) new ≡ take (length (old ++ more) - free - top) (drop top (old ++ more))
      → Frees top old top new (top + free)
  widened old more new top free l f m size front behind =
      let n : length (old ++ more) ≡ length old + length more = length-append old more in
      let d : length (drop top old) ≡ length old - top = length-drop top old in
      let count : length (old ++ more) - free - top ≡ length old - top = omega (arith, n, m, l) in
      record {
        free = omega (arith, f);
        within = omega (arith, size, n, m, l);
        front = front ∙ take-append-le top old more l;
        behind = behind ∙ ap (λ k. take k (drop top (old ++ more))) count
            ∙ ap (take (length old - top)) (drop-append-le top old more l)
            ∙ take_at (drop top old) more (length old - top) d;
      }

  -- a cell is put on the stack
  pub pending_pushed : (old new : List C) (len top to : ℕ) (x : C) → Frees len old top new to
      → seen (set new (to - 1) x) len (to - 1)
      ≡ record { column = take len old; pending = reverse (drop top old) ++ x ∷ [] }
  pending_pushed old new len top to x f =
      let free = f.free in let within = f.within in
      let next : (to - 1) + 1 ≡ to = omega (arith, free) in
      let column : take len (set new (to - 1) x) ≡ take len old = take-set-le len new (to - 1) x (omega (arith, free))
      ∙ f.front in
      let rest : drop (to - 1) (set new (to - 1) x) ≡ x ∷ drop top old =
      drop-set new (to - 1) x (omega (arith, free, within)) ∙ ap (λ k. x ∷ drop k new) next
      ∙ ap (λ l. x ∷ l) f.behind in
      let pending : reverse (drop (to - 1) (set new (to - 1) x)) ≡ reverse (drop top old) ++ x ∷ [] = ap reverse rest
      ∙ reverse-append (x ∷ []) (drop top old) in
      λ i. record { column = column i; pending = pending i }

  -- a cell is put behind the column
  pub column_pushed : (old new : List C) (len top to : ℕ) (x : C) → Frees len old top new to
      → seen (set new len x) (len + 1) to ≡ record { column = take len old ++ x ∷ []; pending = reverse (drop top old) }
  column_pushed old new len top to x f =
      let free = f.free in let within = f.within in
      let column : take (len + 1) (set new len x) ≡ take len old ++ x ∷ [] =
      take_more_set new len x (omega (arith, free, within)) ∙ ap (λ l. l ++ x ∷ []) f.front in
      let pending : reverse (drop to (set new len x)) ≡ reverse (drop top old) =
      ap reverse (drop-set-lt to new len x free ∙ f.behind) in
      λ i. record { column = column i; pending = pending i }

  -- so many cells are copied in reversed order
  pub record Copied (old : List C) (from end to count : ℕ) (now : List C) : Type 0 where
    pub size : length now ≡ length old
    pub front : take (to + count) now ≡ take to old ++ take count (reverse (take (end - from) (drop from old)))
    pub rest : drop from now ≡ drop from old

  pub copied_begin : (old : List C) (from end to : ℕ) → Copied old from end to 0 old
  copied_begin old from end to =
      let none : to + 0 ≡ to = omega arith in
      record { size = refl; front = ap (λ k. take k old) none ∙ sym (append-nil (take to old)); rest = refl }

  pub copied_next : (old : List C) (from end to i : ℕ) (now : List C) (d : C) → from ≤ end → end ≤ length old
      → to + (end - from) ≤ from → i < end - from → Copied old from end to i now
      → Copied old from end to (i + 1) (set now (to + i) (get_or now (end - 1 - i) d))
  copied_next old from end to i now d up within apart less h =
      let x = get_or now (end - 1 - i) d in
      let turned = reverse (take (end - from) (drop from old)) in
      let behind : length (drop from old) ≡ length old - from = length-drop from old in
      let count : length (take (end - from) (drop from old)) ≡ end - from =
      length-take-le (end - from) (drop from old) (omega (arith, behind, up, within)) in
      let same : length now ≡ length old = h.size in
      let at : from + (end - 1 - i - from) ≡ end - 1 - i = omega (arith, less, up) in
      let there : x ≡ get_or (drop from old) (end - 1 - i - from) d =
      ap (λ k. get_or now k d) (sym at) ∙ sym (get_or-drop from now (end - 1 - i - from) d)
      ∙ ap (λ l. get_or l (end - 1 - i - from) d) h.rest in
      let last : length (take (end - from) (drop from old)) - 1 - i ≡ end - 1 - i - from =
      omega (arith, count, less, up) in
      let is : get_or turned i d ≡ x =
      get_or-reverse (take (end - from) (drop from old)) i d (omega (arith, count, less))
      ∙ ap (λ k. get_or (take (end - from) (drop from old)) k d) last
      ∙ get_or-take (end - from) (drop from old) (end - 1 - i - from) d (omega (arith, less, up)) ∙ sym there in
      let size : length turned ≡ end - from = length-reverse (take (end - from) (drop from old)) ∙ count in
      let next : to + (i + 1) ≡ (to + i) + 1 = omega arith in
      record {
        size = length-set now (to + i) x ∙ same;
        front = ap (λ k. take k (set now (to + i) x)) next
            ∙ take_more_set now (to + i) x (omega (arith, same, less, apart, up, within))
            ∙ ap (λ l. l ++ x ∷ []) h.front
            ∙ append_assoc (take to old) (take i turned) (x ∷ [])
            ∙ ap (λ l. take to old ++ l) (ap (λ y. take i turned ++ y ∷ []) (sym is)
            ∙ sym (take_more turned i d (omega (arith, size, less))));
        rest = drop-set-lt from now (to + i) x (omega (arith, less, apart)) ∙ h.rest;
      }

  pub copied_front : (old : List C) (from end to : ℕ) (now : List C) → from ≤ end → end ≤ length old
      → Copied old from end to (end - from) now
      → take (to + (end - from)) now ≡ take to old ++ reverse (take (end - from) (drop from old))
  copied_front old from end to now up within h =
      let turned = reverse (take (end - from) (drop from old)) in
      let behind : length (drop from old) ≡ length old - from = length-drop from old in
      let size : length turned ≡ end - from = length-reverse (take (end - from) (drop from old))
      ∙ length-take-le (end - from) (drop from old) (omega (arith, behind, up, within)) in
      h.front ∙ ap (λ l. take to old ++ l) (take_all (end - from) turned (omega (arith, size)))

  pub copied_behind : (old : List C) (from end to i : ℕ) (now : List C) → from ≤ end → Copied old from end to i now
      → drop end now ≡ drop end old
  copied_behind old from end to i now up h =
      let all : from + (end - from) ≡ end = omega (arith, up) in
      ap (λ k. drop k now) (sym all) ∙ sym (drop-drop (end - from) from now) ∙ ap (drop (end - from)) h.rest
      ∙ drop-drop (end - from) from old ∙ ap (λ k. drop k old) all

  module _ (xs rs new : List C) (from end to : ℕ) (up : from ≤ end) (within : end ≤ length xs) (down : to ≤ from)
      (turned : rs ≡ reverse (take (end - from) (drop from xs)))
      (moved : new ≡ copy_within (put_mid from (end - from) xs rs) from end to) where
    -- the buffer once the cells between the places are reversed
    abbrev mid : List C
    mid = put_mid from (end - from) xs rs

    turned_len : length rs ≡ end - from
    turned_len =
        let d = length-drop from xs in
        ap length turned ∙ length-reverse (take (end - from) (drop from xs))
        ∙ length-take-le (end - from) (drop from xs) (omega (arith, d, up, within))

    head_len : length (take from xs) ≡ from
    head_len = length-take-le from xs (omega (arith, up, within))

    behind_len : length (drop (end - from) (drop from xs)) ≡ length xs - end
    behind_len =
        let d = length-drop from xs in let e = length-drop (end - from) (drop from xs) in
        omega (arith, d, e, up, within)

    size : length mid ≡ length xs
    size =
        let b = length-append rs (drop (end - from) (drop from xs)) in
        let h = head_len in let t = turned_len in let u = behind_len in
        let rest : length (take from xs) + length (rs ++ drop (end - from) (drop from xs)) ≡ length xs =
        omega (arith, b, h, t, u, up, within) in
        length-append (take from xs) (rs ++ drop (end - from) (drop from xs)) ∙ rest

    behind_from : drop from mid ≡ rs ++ drop (end - from) (drop from xs)
    behind_from = drop_at (take from xs) (rs ++ drop (end - from) (drop from xs)) from head_len

    room : end - from ≤ length (drop from mid)
    room = let e = length-drop from mid in let s = size in omega (arith, e, s, up, within)

    low : to ≤ length mid
    low = let s = size in omega (arith, s, up, within, down)

    first : take to mid ≡ take to xs
    first =
        let h = head_len in
        take-append-le to (take from xs) (rs ++ drop (end - from) (drop from xs)) (omega (arith, h, down))
        ∙ take-take to from xs down

    next : take (end - from) (drop from mid) ≡ reverse (take (end - from) (drop from xs))
    next = ap (take (end - from)) behind_from ∙ take_at rs (drop (end - from) (drop from xs)) (end - from) turned_len
        ∙ turned

    pub front_moved : take (to + (end - from)) new ≡ take to xs ++ reverse (take (end - from) (drop from xs))
    front_moved =
        ap (take (to + (end - from))) moved ∙ take-paste mid to (drop from mid) (end - from) low room
        ∙ (λ i. first i ++ next i)

    -- the places from the end on are as they were
    rest_of_mid : drop end mid ≡ drop end xs
    rest_of_mid =
        let all : from + (end - from) ≡ end = omega (arith, up) in
        ap (λ k. drop k mid) (sym all) ∙ sym (drop-drop (end - from) from mid) ∙ ap (drop (end - from)) behind_from
        ∙ drop_at rs (drop (end - from) (drop from xs)) (end - from) turned_len ∙ drop-drop (end - from) from xs
        ∙ ap (λ k. drop k xs) all

    pub behind_moved : drop end new ≡ drop end xs
    behind_moved =
        let later : (to + (end - from)) + (from - to) ≡ end = omega (arith, up, down) in
        ap (drop end) moved
        ∙ ap (λ k. drop k (copy_within mid from end to)) (sym later)
        ∙ sym (drop-drop (from - to) (to + (end - from)) (copy_within mid from end to))
        ∙ ap (drop (from - to)) (drop-paste mid to (drop from mid) (end - from) low room)
        ∙ drop-drop (from - to) (to + (end - from)) mid
        ∙ ap (λ k. drop k mid) later
        ∙ rest_of_mid

  -- what is moved goes from the stack to the column
  pub closes : (xs ys : List C) (len top end mark : ℕ) → top ≤ end → end + mark ≡ length xs → len ≤ top
      → take (len + (end - top)) ys ≡ take len xs ++ reverse (take (end - top) (drop top xs))
      → drop end ys ≡ drop end xs
      → Closes (seen xs len top) mark (record { first = len; count = end - top }) (seen ys (len + (end - top)) end)
  closes xs ys len top end mark up all low front behind =
      let d : length (drop top xs) ≡ length xs - top = length-drop top xs in
      let e : length (drop end xs) ≡ length xs - end = length-drop end xs in
      let later : top + (end - top) ≡ end = omega (arith, up) in
      let below : drop (end - top) (drop top xs) ≡ drop end xs = drop-drop (end - top) top xs
      ∙ ap (λ k. drop k xs) later in
      let stack : reverse (drop top xs) ≡ reverse (drop end xs) ++ reverse (take (end - top) (drop top xs)) =
      ap reverse (sym (take-append-drop (end - top) (drop top xs))
      ∙ ap (λ l. take (end - top) (drop top xs) ++ l) below)
      ∙ reverse-append (take (end - top) (drop top xs)) (drop end xs) in
      let kept : length (reverse (drop end xs)) ≡ mark = length-reverse (drop end xs) ∙ e ∙ omega (arith, all) in
      let pending : length (reverse (drop top xs)) ≡ length xs - top = length-reverse (drop top xs) ∙ d in
      let column : length (take len xs) ≡ len = length-take-le len xs (omega (arith, low, up, all)) in
      record {
        first = sym column;
        count = omega (arith, pending, up, all);
        column = front ∙ ap (λ l. take len xs ++ l)
            (sym (ap (drop mark) stack
            ∙ drop_at (reverse (drop end xs)) (reverse (take (end - top) (drop top xs))) mark kept));
        pending = ap reverse behind
            ∙ sym (ap (take mark) stack
            ∙ take_at (reverse (drop end xs)) (reverse (take (end - top) (drop top xs))) mark kept);
      }
