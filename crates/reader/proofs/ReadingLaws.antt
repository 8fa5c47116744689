-- Laws of reading: it stays within the words, an entry has as many words as its width, and one turn of each loop.
use Prim.Native.Nat.{ℕ, zero, suc, ◌+◌, ◌*◌, ◌-◌, ◌≤◌, ◌<◌}
use mathlib.Core.Path.{◌≡◌, refl, sym, ◌∙◌, subst, ap}
use mathlib.Core.List.{List}
use mathlib.Core.Bool.{Bool, true, false}
use native.Mathlib.Omega.{arith}
use native.Mathlib.Numerals.{add-one}
use borrow.Author.Tests.{ltb-true, lt-ltb, le-ltb}
use lib.ListN.{length, get_or, drop, set, drop_of_length-le}
use lib.Seq.{drop-cons}
use lib.Dec.{ltb}
use Rattle.std.specs.Prelude.{◌&&◌, Ok, Err}
use Rattle.grammar.specs.Sections.{kind_at, no_section}
use Rattle.grammar.specs.Ranges.{in_range, back}
use Rattle.grammar.specs.Rules.{width_of, count_kept, entry_kept, rising, Risen, learnt, after}
use Rattle.grammar.specs.declared.Rule.{Rule}
use Rattle.grammar.specs.declared.Rule.TheVariants.{RisingOnce}
use Rattle.grammar.specs.declared.Keep.{Keep}
use Rattle.grammar.specs.declared.Section.{Section}
use Rattle.grammar.specs.declared.Known.{Known}
use Rattle.grammar.specs.declared.Kind.{Kind}
use Rattle.grammar.specs.declared.Kind.TheVariants.{Span}
use Rattle.grammar.proofs.EntryLaws.{risen_next}
use Rattle.reader.specs.Refusals.{refusal}
use Rattle.reader.specs.Reading.{Onward, and_then, where_kept, read_word, read_fields, read_entries, read_section, then_read, read_sections, no, yes}
use Rattle.reader.specs.declared.refusal.Reason.{Reason}
use Rattle.reader.specs.declared.refusal.Reason.TheVariants.{Cut, Range, Rule as Broken, Rest}
use Rattle.reader.specs.declared.refusal.Refusal.{Refusal}

-- Where reading goes on, it goes on within the words.
abbrev pub Within : ℕ → Onward → Type 0
Within n (Ok a) = a ≤ n
Within n (Err refused) = Unit {0}

pub within_next : {n a : ℕ} (t u : Onward) → t ≡ u → t ≡ Ok a → Within n u → a ≤ n
within_next {n} t u e g h = subst (Within n) (sym e ∙ g) h

and_then_within : (n : ℕ) (t : Onward) (k : ℕ → Onward) → Within n t → ((a : ℕ) → a ≤ n → Within n (k a)) → Within n (and_then t k)
and_then_within n (Ok a) k h f = f a h
and_then_within n (Err refused) k h f = tt

kept_within : (n : ℕ) (b : Bool) (reason : Reason) (p : ℕ) (t : Onward) → (b ≡ true → Within n t) → Within n (where_kept b reason p t)
kept_within n true reason p t h = h refl
kept_within n false reason p t h = tt

module _ (ws : List ℕ) (k : Known) where
  pub read_word_within : (kind : Kind) (at : ℕ) → Within (length ws) (read_word ws kind k at)
  unfolding read_word
  read_word_within kind at =
      kept_within (length ws) (ltb at (length ws)) Cut (4 * at) _
      (λ e. kept_within (length ws) (in_range kind k (get_or ws (at - 1) 0) (get_or ws at 0)) Range (4 * (at - back kind)) (Ok (at + 1)) (λ d. omega (arith, ltb-true)))

  -- A word is missing, refused by its rule, or passed.
  pub word_missing : (kind : Kind) (at : ℕ) → length ws ≤ at → read_word ws kind k at ≡ Err (refusal Cut (4 * at))
  unfolding read_word
  word_missing kind at h = rw (le-ltb at (length ws) h)

  module _ (kind : Kind) (at : ℕ) {before w : ℕ} {kept : Bool} (h : at < length ws) (eb : before ≡ get_or ws (at - 1) 0) (ew : w ≡ get_or ws at 0) (ek : kept ≡ in_range kind k before w) where
    pub word_refused : kept ≡ false → read_word ws kind k at ≡ Err (refusal Range (4 * (at - back kind)))
    unfolding read_word
    word_refused e = rw (lt-ltb at (length ws) h, ← eb, ← ew, ← ek, e)

    pub word_passed : kept ≡ true → read_word ws kind k at ≡ Ok (at + 1)
    unfolding read_word
    word_passed e = rw (lt-ltb at (length ws) h, ← eb, ← ew, ← ek, e)

  -- A word takes one place.
  pub word_moves : (kind : Kind) (at a : ℕ) → read_word ws kind k at ≡ Ok a → a ≡ at + 1
  unfolding read_word
  word_moves kind at a e = go (ltb at (length ws)) (in_range kind k (get_or ws (at - 1) 0) (get_or ws at 0)) e
    where
      go : (b d : Bool) → where_kept b Cut (4 * at) (where_kept d Range (4 * (at - back kind)) (Ok (at + 1))) ≡ Ok a → a ≡ at + 1
      go true true p = cc
      go true false p = cc
      go false d p = cc

module _ (ws : List ℕ) (s : Section) (k : Known) where
  pub read_fields_within : (n f at : ℕ) → at ≤ length ws → Within (length ws) (read_fields ws s k n f at)
  unfolding read_fields
  read_fields_within zero f at h = h
  read_fields_within (suc n) f at h =
      and_then_within (length ws) (read_word ws (kind_at s f) k at) (read_fields ws s k n (f + 1)) (read_word_within ws k (kind_at s f) at) (read_fields_within n (f + 1))

  pub read_entries_within : (n done at : ℕ) → at ≤ length ws → Within (length ws) (read_entries ws s k n done at)
  unfolding read_entries
  read_entries_within zero done at h = h
  read_entries_within (suc n) done at h =
      and_then_within _ (read_fields ws s k (width_of s k) 0 at) _ (read_fields_within (width_of s k) 0 at h)
      (λ a g. kept_within _ (entry_kept ws s.rule (width_of s k) done at) Broken (4 * at) _ (λ e. read_entries_within n (done + 1) a g))

  -- An entry takes as many places as it has words.
  pub fields_move : (n f at a : ℕ) → read_fields ws s k n f at ≡ Ok a → a ≡ at + n
  unfolding read_fields
  fields_move zero f at a e = let q : at ≡ a = cc in omega arith
  fields_move (suc n) f at a e = go (λ p. fields_move n (f + 1) p a) (read_word ws (kind_at s f) k at) refl e
    where
      go : ((p : ℕ) → read_fields ws s k n (f + 1) p ≡ Ok a → a ≡ p + n) → (t : Onward) → read_word ws (kind_at s f) k at ≡ t
          → and_then t (read_fields ws s k n (f + 1)) ≡ Ok a → a ≡ at + suc n
      go ih (Ok p) q r = omega (arith, ih p r, word_moves ws k (kind_at s f) at p q)
      go ih (Err refused) q r = cc

  -- One turn of the loop over the words of an entry.
  pub fields_step : (n f at : ℕ) {x : Kind} {r t : Onward} → f < n → x ≡ kind_at s f → r ≡ read_word ws x k at → r ≡ t
      → read_fields ws s k (n - f) f at ≡ and_then t (read_fields ws s k (n - (f + 1)) (f + 1))
  unfolding read_fields
  fields_step n f at h ex er et = let e : n - f ≡ suc (n - (f + 1)) = omega arith in rw (e, ← ex, ← er, et)

  pub fields_end : (n f at : ℕ) → n ≤ f → read_fields ws s k (n - f) f at ≡ Ok at
  unfolding read_fields
  fields_end n f at h = let e : n - f ≡ 0 = omega arith in ap (λ (m : ℕ). read_fields ws s k m f at) e

  -- One turn of the loop over entries.
  pub entries_start : (n at : ℕ) → read_entries ws s k n 0 at ≡ read_entries ws s k (n - 0) 0 at
  entries_start n at = let e : n ≡ n - 0 = omega arith in ap (λ (m : ℕ). read_entries ws s k m 0 at) e

  pub entries_step : (n done at : ℕ) {r t : Onward} {kept : Bool} → done < n → r ≡ read_fields ws s k (width_of s k) 0 at → r ≡ t
      → kept ≡ entry_kept ws s.rule (width_of s k) done at
      → read_entries ws s k (n - done) done at ≡ and_then t (λ next. where_kept kept Broken (4 * at) (read_entries ws s k (n - (done + 1)) (done + 1) next))
  unfolding read_entries
  entries_step n done at h er et ek =
      let e : n - done ≡ suc (n - (done + 1)) = omega arith in
      rw (e, ← er, et, ← ek)

  pub entries_end : (n done at : ℕ) → n ≤ done → read_entries ws s k (n - done) done at ≡ Ok at
  unfolding read_entries
  entries_end n done at h = let e : n - done ≡ 0 = omega arith in ap (λ (m : ℕ). read_entries ws s k m done at) e

-- An entry that kept the rule of rising pairs has risen.
kept_rises : (ws : List ℕ) (w done at : ℕ) → entry_kept ws RisingOnce w done at ≡ true → rising ws w done at ≡ true
kept_rises ws w done at e = go (rising ws w done at) _ e
  where
    go : (b d : Bool) → (b && d) ≡ true → b ≡ true
    go true d p = refl
    go false d p = p

-- The entries before the next one have risen.
pub entries_risen : (ws : List ℕ) (rule : Rule) (w done at next : ℕ) {kept : Bool} → next ≡ at + w → kept ≡ entry_kept ws rule w done at → kept ≡ true
    → (rule ≡ RisingOnce → Risen ws w done at) → rule ≡ RisingOnce → Risen ws w (done + 1) next
entries_risen ws rule w done at next e ek kept before once =
    risen_next ws w done at next e (kept_rises ws w done at (subst (λ (x : Rule). entry_kept ws x w done at ≡ true) once (sym ek ∙ kept))) (before once)

pub read_section_within : (ws : List ℕ) (s : Section) (k : Known) (at : ℕ) → Within (length ws) (read_section ws s k at)
unfolding read_section
read_section_within ws s k at =
    and_then_within _ (read_word ws (Span s.low s.high) k at) _ (read_word_within ws k (Span s.low s.high) at)
    (λ a g. kept_within _ (count_kept s.check k (get_or ws at 0)) Broken (4 * at) _ (λ e. read_entries_within ws s _ _ 0 a g))

-- One turn of the loop over the sections.
pub sections_step : (ws : List ℕ) (len : ℕ) (rows : List Section) (i : ℕ) (k : Known) (starts : List ℕ) (at : ℕ) {s : Section} {r t : Onward} {l : Known} → i < length rows
    → s ≡ get_or rows i no_section → r ≡ read_section ws s k at → r ≡ t → l ≡ after ws s.keep (learnt s.keep k (get_or ws at 0)) at
    → read_sections ws len (drop i rows) i k starts at ≡ then_read t (read_sections ws len (drop (i + 1) rows) (i + 1) l (set starts i at))
unfolding read_sections
sections_step ws len rows i k starts at h ex er et el =
    rw (drop-cons rows i no_section h, add-one i, ← ex, ← er, et, ← el)

-- After the last section: bytes that are left are refused, none are accepted.
pub sections_rest : (ws : List ℕ) (len : ℕ) (rows : List Section) (i : ℕ) (k : Known) (starts : List ℕ) (at : ℕ) → length rows ≤ i → 4 * at < len
    → read_sections ws len (drop i rows) i k starts at ≡ no Rest (4 * at)
unfolding read_sections
sections_rest ws len rows i k starts at h l = rw (drop_of_length-le rows h, lt-ltb _ _ l)

pub sections_end : (ws : List ℕ) (len : ℕ) (rows : List Section) (i : ℕ) (k : Known) (starts : List ℕ) (at : ℕ) → length rows ≤ i → len ≤ 4 * at
    → read_sections ws len (drop i rows) i k starts at ≡ yes k starts
unfolding read_sections
sections_end ws len rows i k starts at h l = rw (drop_of_length-le rows h, le-ltb _ _ l)

-- A section: its count is refused, breaks the rule about it, or is followed by the entries.
module _ (ws : List ℕ) (s : Section) (k : Known) (at : ℕ) {r : Onward} (er : r ≡ read_word ws (Span s.low s.high) k at) where
  pub section_refused : {f : Refusal} → r ≡ Err f → read_section ws s k at ≡ Err f
  unfolding read_section
  section_refused et = rw (← er, et)

  module _ {next n : ℕ} {kept : Bool} (et : r ≡ Ok next) (en : n ≡ get_or ws at 0) (ek : kept ≡ count_kept s.check k n) where
    pub section_broken : kept ≡ false → read_section ws s k at ≡ Err (refusal Broken (4 * at))
    unfolding read_section
    section_broken b = rw (← er, et, ← en, ← ek, b)

    pub section_read : {l : Known} {e : Onward} → kept ≡ true → l ≡ learnt s.keep k n → e ≡ read_entries ws s l n 0 next → e ≡ read_section ws s k at
    unfolding read_section
    section_read b el ee = rw (← er, et, ← en, ← ek, b, ← el) ee

pub section_known : (ws : List ℕ) (keep : Keep) (k : Known) (at : ℕ) {n : ℕ} {l m : Known} → n ≡ get_or ws at 0 → l ≡ learnt keep k n → m ≡ after ws keep l at
    → m ≡ after ws keep (learnt keep k (get_or ws at 0)) at
section_known ws keep k at en el em = rw (← en, ← el) em
