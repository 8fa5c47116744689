-- A buffer that is filled part by part: what its start is after one more part, and what the reader has lost.
use Rattle.std.proofs.Common.{◌≡◌, ℕ, ◌+◌, ◌-◌, ◌≤◌, List, ◌++◌, arith, length, take, slice_range, sym, ap, ◌∙◌, subst, le_refl, drop_at, length-take-le}
use Rattle.std.specs.Prelude.{Option, Result, Ok, Err, OnErr}
use Rattle.std.proofs.lemmas.Slice.{take-put_mid_below}
use Rattle.std.specs.Io.KnownBytes.{Consumes, Keeps}
use Rattle.std.proofs.KnownBytes.{Consumes-trans, Consumes-kept}
use Rattle.stream.specs.Stream.{Leaves, Loses}
use borrow.Rule.Slice.PartMut.{put_mid, post_of}
use lib.Seq.{take-add, take-append-le}

take_split : (a b : ℕ) (old new : List ℕ) → a ≤ b → take a new ≡ take a old → take a old ++ slice_range new a b ≡ take b new
take_split a b old new h front =
    let same : a + (b - a) ≡ b = omega arith in
    ap (λ l. l ++ slice_range new a b) (sym front) ∙ sym (take-add a (b - a) new) ∙ ap (λ n. take n new) same

slice_range-put_mid : (a k n : ℕ) (xs ys : List ℕ) → a ≤ length xs → n ≤ length ys → slice_range (put_mid a k xs ys) a (a + n) ≡ take n ys
slice_range-put_mid a k n xs ys within fits =
    let same : (a + n) - a ≡ n = omega arith in
    let after = post_of a k xs in
    ap (take ((a + n) - a)) (drop_at (take a xs) (ys ++ after) a (length-take-le a xs within)) ∙ ap (λ m. take m (ys ++ after)) same ∙ take-append-le n ys after fits

-- A read put n more bytes behind the first a.
pub filled_more : (before mid after : Option (List ℕ)) (a k n : ℕ) (xs ys : List ℕ) → a ≤ length xs → n ≤ length ys → Consumes before mid (take a xs) → Consumes mid after (take n ys) → Consumes before after (take (a + n) (put_mid a k xs ys))
filled_more before mid after a k n xs ys within fits first second =
    let part = slice_range-put_mid a k n xs ys within fits in
    let joined = take_split a (a + n) xs (put_mid a k xs ys) (omega arith) (take-put_mid_below _ _ _ _ _ (le_refl _) within) in
    subst (Consumes before after) (ap (λ l. take a xs ++ l) (sym part) ∙ joined) (Consumes-trans before mid after _ _ first second)

-- A read behind the first a put nothing there that counts.
pub filled_same : (before mid after : Option (List ℕ)) (a k : ℕ) (xs ys : List ℕ) → a ≤ length xs → Consumes before mid (take a xs) → Keeps mid after → Consumes before after (take a (put_mid a k xs ys))
filled_same before mid after a k xs ys within first kept =
    subst (Consumes before after) (sym (take-put_mid_below _ _ _ _ _ (le_refl _) within)) (Consumes-kept before mid after _ first kept)

-- What was lost before a second filling that failed, and by it, was lost from the start.
pub both_lost : (before mid after : Option (List ℕ)) (bytes buf : List ℕ) → Consumes before mid bytes → Leaves mid after buf → Loses before after
both_lost before mid after bytes buf first second = (bytes ++ take second.0 buf, Consumes-trans before mid after _ _ first second.2)

pub on_err : {T E P : Type 0} (r : Result T E) → P → OnErr r P
on_err (Ok x) p = tt
on_err (Err e) p = p
