-- What reading has found where it went on: each word of each entry is in the range of its kind, each count and each entry kept its rule, and
-- the next section starts right after. Shown once, over the rows of the grammar.
use Prim.Native.Nat.{ℕ, zero, suc, ◌+◌, ◌*◌, ◌-◌, ◌≤◌, ◌<◌}
use mathlib.Core.Path.{◌≡◌, refl, sym, ◌∙◌, ap, subst}
use mathlib.Core.List.{List, [], ◌∷◌}
use mathlib.Core.Bool.{Bool, true, false, cond, ◌&&◌}
use native.Mathlib.Omega.{arith}
use native.Mathlib.Nat.{mul-zero, mul-suc}
use borrow.Author.Tests.{ltb-false, leb-true}
use lib.ListN.{length, get_or, set}
use lib.Dec.{ltb, leb}
use Rattle.std.specs.Prelude.{Ok, Err}
use Rattle.words.specs.Words.{words}
use Rattle.grammar.specs.Sections.{sections, kind_at}
use Rattle.grammar.specs.Ranges.{in_range}
use Rattle.grammar.specs.Rules.{width_of, count_kept, entry_kept, learnt, after}
use Rattle.grammar.specs.declared.Section.{Section}
use Rattle.grammar.specs.declared.Known.{Known}
use Rattle.grammar.specs.declared.Kind.{Kind}
use Rattle.grammar.specs.declared.Kind.TheVariants.{Span}
use Rattle.reader.specs.Answer.{Answer, Accepted, No, Reading}
use Rattle.reader.specs.Reading.{Onward, and_then, where_kept, read_word, read_fields, read_entries, read_section, then_read, read_sections, read_all, nothing_known, nowhere, no, yes}
use Rattle.reader.specs.declared.refusal.Reason.{Reason}
use Rattle.reader.specs.declared.refusal.Reason.TheVariants.{Rest}
use Rattle.reader.proofs.ReadingLaws.{within_next, read_section_within}

-- ---- where a step that goes on came from

ok_same : {a b : ℕ} → ◌≡◌ {A = Onward} (Ok a) (Ok b) → b ≡ a
ok_same e = cc

and_then_next : (t : Onward) (f : ℕ → Onward) (a : ℕ) → and_then t f ≡ Ok a → (b : ℕ) × (t ≡ Ok b) × (f b ≡ Ok a)
and_then_next (Ok b) f a e = (b, refl, e)
and_then_next (Err refused) f a e = absurd (cc)

kept_next : (b : Bool) (reason : Reason) (p : ℕ) (t : Onward) (a : ℕ) → where_kept b reason p t ≡ Ok a → (b ≡ true) × (t ≡ Ok a)
kept_next true reason p t a e = (refl, e)
kept_next false reason p t a e = absurd (cc)

pub both : (b d : Bool) → (b && d) ≡ true → (b ≡ true) × (d ≡ true)
both true d e = (refl, e)
both false d e = let z : ◌≡◌ {A = ℕ} 0 1 = cc in absurd (omega arith)

-- ---- words and entries

-- The word at a place is in the range of its kind.
abbrev pub Ranged : (words : List ℕ) → Known → Kind → (at : ℕ) → Type 0
Ranged ws k kind at = in_range kind k (get_or ws (at - 1) 0) (get_or ws at 0) ≡ true

pub word_next : (ws : List ℕ) (k : Known) (kind : Kind) (at a : ℕ) → read_word ws kind k at ≡ Ok a → (a ≡ at + 1) × Ranged ws k kind at
unfolding read_word
word_next ws k kind at a e =
    let u = kept_next (ltb at (length ws)) _ _ _ a e in
    let v = kept_next (in_range kind k (get_or ws (at - 1) 0) (get_or ws at 0)) _ _ _ a u.1 in
    (ok_same v.1, v.0)

module _ (ws : List ℕ) (s : Section) (k : Known) where
  pub fields_next : (n f at a : ℕ) → read_fields ws s k n f at ≡ Ok a
      → (a ≡ at + n) × ((j : ℕ) → j < n → Ranged ws k (kind_at s (f + j)) (at + j))
  unfolding read_fields
  fields_next zero f at a e = let h = ok_same e in (omega arith, λ j l. absurd (omega arith))
  fields_next (suc n) f at a e =
      let u = and_then_next (read_word ws (kind_at s f) k at) _ a e in
      let v = word_next ws k (kind_at s f) at u.0 u.1 in
      let r = fields_next n (f + 1) u.0 a u.2 in
      (omega (arith, v.0, r.0), all v.1 u.0 v.0 r.1)
    where
      all : Ranged ws k (kind_at s f) at → (b : ℕ) → b ≡ at + 1 → ((j : ℕ) → j < n → Ranged ws k (kind_at s (f + 1 + j)) (b + j))
          → (j : ℕ) → j < suc n → Ranged ws k (kind_at s (f + j)) (at + j)
      all first b eb rest zero l =
          let p : f + 0 ≡ f = omega arith in
          let q : at + 0 ≡ at = omega arith in
          rw (p, q) first
      all first b eb rest (suc j) l =
          let p : f + suc j ≡ f + 1 + j = omega arith in
          let q : at + suc j ≡ b + j = omega arith in
          rw (p, q) (rest j (omega arith))

  -- n entries of w words from `at` on, after `done` others.
  pub record EntriesRead (w n done at : ℕ) : Type 0 where
    pub words : (e f : ℕ) → e < n → f < w → Ranged ws k (kind_at s f) (at + w * e + f)
    pub rules : (e : ℕ) → e < n → entry_kept ws s.rule w (done + e) (at + w * e) ≡ true

  pub entries_next : (n done at a : ℕ) → read_entries ws s k n done at ≡ Ok a
      → (a ≡ at + width_of s k * n) × EntriesRead (width_of s k) n done at
  unfolding read_entries
  entries_next zero done at a e =
      let h = ok_same e in
      (omega (arith, mul-zero (width_of s k)), record { words = λ i j l m. absurd (omega arith); rules = λ i l. absurd (omega arith) })
  entries_next (suc n) done at a e =
      let u = and_then_next (read_fields ws s k w 0 at) _ a e in
      let v = fields_next w 0 at u.0 u.1 in
      let c = kept_next (entry_kept ws s.rule w done at) _ _ _ a u.2 in
      let r = entries_next n (done + 1) u.0 a c.1 in (
        omega (arith, v.0, r.0, mul-suc w n),
        record { words = all v.1 u.0 v.0 r.1.words; rules = each c.0 u.0 v.0 r.1.rules },
      )
    where
      w : ℕ
      w = width_of s k

      later : (b i : ℕ) → b ≡ at + w → at + w * suc i ≡ b + w * i
      later b i eb = omega (arith, mul-suc w i)

      here : at + w * 0 ≡ at
      here = omega (arith, mul-zero w)

      all : ((j : ℕ) → j < w → Ranged ws k (kind_at s (0 + j)) (at + j)) → (b : ℕ) → b ≡ at + w
          → ((i j : ℕ) → i < n → j < w → Ranged ws k (kind_at s j) (b + w * i + j))
          → (i j : ℕ) → i < suc n → j < w → Ranged ws k (kind_at s j) (at + w * i + j)
      all first b eb rest zero j l m = let z : 0 + j ≡ j = omega arith in rw here (rw z at (first j m))
      all first b eb rest (suc i) j l m = rw (later b i eb) (rest i j (omega arith) m)

      each : entry_kept ws s.rule w done at ≡ true → (b : ℕ) → b ≡ at + w
          → ((i : ℕ) → i < n → entry_kept ws s.rule w (done + 1 + i) (b + w * i) ≡ true)
          → (i : ℕ) → i < suc n → entry_kept ws s.rule w (done + i) (at + w * i) ≡ true
      each first b eb rest zero l = let z : done + 0 ≡ done = omega arith in rw (here, z) first
      each first b eb rest (suc i) l = let z : done + suc i ≡ done + 1 + i = omega arith in rw (later b i eb, z) (rest i (omega arith))

-- ---- sections

-- A section whose count stands at `at`, read with k known before it; the next one starts at `next`.
pub record SectionRead (ws : List ℕ) (s : Section) (k : Known) (at next : ℕ) : Type 0 where
  pub low : s.low ≤ get_or ws at 0
  pub high : get_or ws at 0 ≤ s.high
  pub rule : count_kept s.check k (get_or ws at 0) ≡ true
  pub entries : EntriesRead ws s (learnt s.keep k (get_or ws at 0)) (width_of s (learnt s.keep k (get_or ws at 0))) (get_or ws at 0) 0 (at + 1)
  pub onward : next ≡ at + 1 + width_of s (learnt s.keep k (get_or ws at 0)) * get_or ws at 0
  pub within : next ≤ length ws

pub section_next : (ws : List ℕ) (s : Section) (k : Known) (at a : ℕ) → read_section ws s k at ≡ Ok a → SectionRead ws s k at a
unfolding read_section
section_next ws s k at a e =
    let n : ℕ = get_or ws at 0 in
    let u = and_then_next (read_word ws (Span s.low s.high) k at) _ a e in
    let v = word_next ws k (Span s.low s.high) at u.0 u.1 in
    let b = both (leb s.low n) (leb n s.high) v.1 in
    let c = kept_next (count_kept s.check k n) _ _ _ a u.2 in
    let r = entries_next ws s (learnt s.keep k n) n 0 u.0 a c.1 in
    record {
      low = leb-true _ _ b.0;
      high = leb-true _ _ b.1;
      rule = c.0;
      entries = subst (EntriesRead ws s (learnt s.keep k n) (width_of s (learnt s.keep k n)) n 0) v.0 r.1;
      onward = r.0 ∙ ap (λ (m : ℕ). m + width_of s (learnt s.keep k n) * n) v.0;
      within = within_next _ _ (sym e) refl (read_section_within ws s k at);
    }

refused_accepted : {A : Type 0} (reason : Reason) (p : ℕ) (k : Known) (starts : List ℕ) → no reason p ≡ yes k starts → A
refused_accepted reason p k starts e = let a : No reason p ≡ Accepted = ap (λ (r : Reading). r.answer) e in absurd (cc)

module _ (ws : List ℕ) (len i : ℕ) (k : Known) (starts : List ℕ) (at : ℕ) {k' : Known} {starts' : List ℕ} where
  -- The first of some sections, and the rest.
  pub sections_next : (s : Section) (rest : List Section) → read_sections ws len (s ∷ rest) i k starts at ≡ yes k' starts'
      → (next : ℕ) × SectionRead ws s k at next
      × (read_sections ws len rest (i + 1) (after ws s.keep (learnt s.keep k (get_or ws at 0)) at) (set starts i at) next ≡ yes k' starts')
  unfolding read_sections
  sections_next s rest e = by_step (read_section ws s k at) refl e
    where
      by_step : (t : Onward) → read_section ws s k at ≡ t
          → then_read t (read_sections ws len rest (i + 1) (after ws s.keep (learnt s.keep k (get_or ws at 0)) at) (set starts i at)) ≡ yes k' starts'
          → (next : ℕ) × SectionRead ws s k at next
          × (read_sections ws len rest (i + 1) (after ws s.keep (learnt s.keep k (get_or ws at 0)) at) (set starts i at) next ≡ yes k' starts')
      by_step (Ok a) et e = (a, section_next ws s k at a et, e)
      by_step (Err f) et e = refused_accepted f.reason f.place k' starts' e

  -- After the last section no byte is left.
  pub sections_done : read_sections ws len [] i k starts at ≡ yes k' starts' → (len ≤ 4 * at) × (yes k starts ≡ yes k' starts')
  unfolding read_sections
  sections_done e = by_room (ltb (4 * at) len) refl e
    where
      by_room : (b : Bool) → ltb (4 * at) len ≡ b → cond b (no Rest (4 * at)) (yes k starts) ≡ yes k' starts'
          → (len ≤ 4 * at) × (yes k starts ≡ yes k' starts')
      by_room true eb e = refused_accepted Rest (4 * at) k' starts' e
      by_room false eb e = (ltb-false _ _ eb, e)

-- Some sections read one after the other, and what came of it: for each where the next one starts and what was found; at the end no byte is
-- left.
abbrev pub SectionsRead : (words : List ℕ) → (bytes : ℕ) → List Section → ℕ → Known → List ℕ → (at : ℕ) → Reading → Type 0
SectionsRead ws len [] i k starts at r = (len ≤ 4 * at) × (yes k starts ≡ r)
SectionsRead ws len (s ∷ rest) i k starts at r =
    (next : ℕ) × SectionRead ws s k at next
    × SectionsRead ws len rest (i + 1) (after ws s.keep (learnt s.keep k (get_or ws at 0)) at) (set starts i at) next r

pub sections_read : (ws : List ℕ) (len : ℕ) (rows : List Section) (i : ℕ) (k : Known) (starts : List ℕ) (at : ℕ) (k' : Known) (starts' : List ℕ)
    → read_sections ws len rows i k starts at ≡ yes k' starts' → SectionsRead ws len rows i k starts at (yes k' starts')
sections_read ws len [] i k starts at k' starts' e = sections_done ws len i k starts at e
sections_read ws len (s ∷ rest) i k starts at k' starts' e =
    let u = sections_next ws len i k starts at s rest e in
    (u.0, u.1, sections_read ws len rest (i + 1) _ _ u.0 k' starts' u.2)

-- An answer that accepts is its counts and starts.
pub answered : (r : Reading) → r.answer ≡ Accepted → r ≡ yes r.known r.starts
answered r e = ap (λ (a : Answer). record { answer = a; known = r.known; starts = r.starts }) e

-- The ten sections of an accepted input.
pub accepted_read : (s : List ℕ) (k : Known) (starts : List ℕ) → read_all s ≡ yes k starts
    → SectionsRead (words s) (length s) sections 0 nothing_known nowhere 0 (yes k starts)
unfolding read_all
accepted_read s k starts e = sections_read (words s) (length s) sections 0 nothing_known nowhere 0 k starts e
