-- What H_ENTER enters, and when it gives H_HARDWARE.
use Rattle.std.specs.Prelude.{map, ◌≢◌, bit_and, if◌then◌else◌}
use Rattle.std.proofs.Common.{◌≡◌, ℕ, ◌-◌, ◌*◌, ◌/◌, ◌^◌, ◌<◌, ◌≤◌, Bool, refl, subst, List, [], ◌∷◌, true, false, Option, Some, None, ◌⊎◌, inl, inr, nat_lt, arith}
use Rattle.std.proofs.lemmas.Bool.{cases_Bool}
use Rattle.std.proofs.lemmas.Nat.{and_le_r, or_lt}
use Rattle.std.specs.List.{range_with_len}
use Rattle.hpte_fields.specs.Fields.{stored_first, stored_second, normal_words}
use Rattle.papr_codes.specs.FlagBits.{has_flag}
use Rattle.papr_codes.specs.declared.codes.Rc.TheVariants.{Hardware}
use Rattle.frame_grants.specs.declared.grant.Grant.{Grant}
use Rattle.entry_model.specs.declared.operation.Op.{Op}
use Rattle.entry_model.specs.declared.operation.Op.TheVariants.{Enter}
use Rattle.entry_model.specs.declared.receipt.Receipt.{Receipt}
use Rattle.entry_model.specs.Receipt.{is_taken, is_worn}
use Rattle.entry_model.specs.Trial.{call}
use Rattle.entry_model.proofs.Heights.{calls_cost}
use Rattle.entry_model.proofs.PlanBounds.{EntersOnly, IsTame, NoneWorn, each_call, entries_cost}
use Rattle.call_plan.specs.Enter.{candidates, enter_told}
use Rattle.page_grants.specs.Suited.{suits_grants, suited_words, entered_words}
use Rattle.call_plan.specs.Checks.{h_enter_plan, words_plan}
use Rattle.call_plan.proofs.Tame.{refused_tame}

-- Words whose page is granted with these storage control bits, the first of them a doubleword.
pub record IsSuited (grants : List Grant) (dword0 dword1 : ℕ) : Type 0 where
  pub suits : suits_grants grants dword0 dword1 ≡ true
  pub fits : dword0 < 2 ^ 64

-- The first word that H_ENTER stores is a doubleword, whatever it is made of.
stored-fits : (pteh : ℕ) → stored_first pteh < 2 ^ 64
stored-fits pteh =
    let masked : bit_and pteh 0xFFFFFFFFFFFFFF9F ≤ 0xFFFFFFFFFFFFFF9F = and_le_r pteh
    0xFFFFFFFFFFFFFF9F in
    or_lt 64 (bit_and pteh 0xFFFFFFFFFFFFFF9F) 0x01 (omega arith) (omega arith)

if_some : (b : Bool) (v w : ℕ × ℕ) → (if b then None else Some v) ≡ Some w → v ≡ w
if_some true v w e = cc
if_some false v w e = cc

normal-fits : (pteh ptel : ℕ) (w : ℕ × ℕ) → normal_words pteh ptel ≡ Some w → w.0 < 2 ^ 64
normal-fits pteh ptel w e =
    let same = if_some _ (stored_first pteh, stored_second ptel) w e in
    subst (λ (v : ℕ × ℕ). v.0 < 2 ^ 64) same (stored-fits pteh)

candidates_cost :
    (op : Op) (flags ptex : ℕ) → calls_cost (map (call op) (candidates flags ptex)) ≤ 32
unfolding candidates
candidates_cost op flags ptex = at (cases_Bool (has_flag flags 0x8000000000)) where
  at :
      (has_flag flags 0x8000000000 ≡ true) ⊎ (has_flag flags 0x8000000000 ≡ false)
      → calls_cost (map (call op) (candidates flags ptex)) ≤ 32
  at (inl exact) = let one :
      calls_cost (map (call op) (range_with_len ptex 1)) ≤ 32 =
      omega (arith, entries_cost op ptex 1) in rw exact one
  at (inr group) = let eight :
      calls_cost (map (call op) (range_with_len (ptex / 8 * 8) 8)) ≤ 32 =
      omega (arith, entries_cost op (ptex / 8 * 8) 8) in rw group eight

told_one :
    (r : Receipt) (rs : List Receipt)
    → is_worn r.answer ≡ false
    → (enter_told rs).0 ≢ Hardware
    → (enter_told (r ∷ rs)).0 ≢ Hardware
told_one r rs fine rest = at (cases_Bool (is_taken r.answer)) where
  at : (is_taken r.answer ≡ true) ⊎ (is_taken r.answer ≡ false) → (enter_told (r ∷ rs)).0 ≢ Hardware
  at (inl taken) = rw taken rest
  at (inr free) = rw (free, fine) (λ e. cc)

told_fine : (rs : List Receipt) → NoneWorn rs → (enter_told rs).0 ≢ Hardware
told_fine [] fine = λ e. cc
told_fine (r ∷ rs) fine = told_one r rs fine.0 (told_fine rs fine.1)

suited_fits :
    (grants : List Grant) (words : Option (ℕ × ℕ))
    → ((w : ℕ × ℕ) → words ≡ Some w → w.0 < 2 ^ 64)
    → (w : ℕ × ℕ)
    → suited_words grants words ≡ Some w
    → IsSuited grants w.0 w.1
suited_fits grants None fits w e = absurd (cc)
suited_fits grants (Some v) fits w e = at (cases_Bool (suits_grants grants v.0 v.1)) where
  at :
      (suits_grants grants v.0 v.1 ≡ true) ⊎ (suits_grants grants v.0 v.1 ≡ false)
      → IsSuited grants w.0 w.1
  at (inl suits) =
      let same : v ≡ w = cc in
      subst (λ (u : ℕ × ℕ). IsSuited grants u.0 u.1) same
      (record { suits = suits; fits = fits v refl })
  at (inr refused) = absurd (cc)

-- What H_ENTER stores is suited.
pub entered_suited :
    (grants : List Grant) (pteh ptel : ℕ) (w : ℕ × ℕ)
    → entered_words grants pteh ptel ≡ Some w
    → IsSuited grants w.0 w.1
entered_suited grants pteh ptel w e =
    suited_fits grants (normal_words pteh ptel) (normal-fits pteh ptel) w e

words_tame :
    (W : ℕ → ℕ → Type 0) (flags ptex : ℕ) (words : Option (ℕ × ℕ))
    → ((w : ℕ × ℕ) → words ≡ Some w → W w.0 w.1)
    → IsTame W (words_plan flags ptex words)
words_tame W flags ptex None stored = refused_tame W
words_tame W flags ptex (Some w) stored =
    record {
      enters = each_call (EntersOnly W) (Enter w.0 w.1) (candidates flags ptex) (stored w refl);
      few = candidates_cost (Enter w.0 w.1) flags ptex;
      code = λ rs trial fine. told_fine rs fine;
    }

pub h_enter_tame :
    (W : ℕ → ℕ → Type 0) (order : ℕ) (grants : List Grant) (flags ptex pteh ptel : ℕ)
    → ((w : ℕ × ℕ) → entered_words grants pteh ptel ≡ Some w → W w.0 w.1)
    → IsTame W (h_enter_plan order grants flags ptex pteh ptel)
unfolding h_enter_plan
h_enter_tame W order grants flags ptex pteh ptel stored =
    at (cases_Bool (nat_lt ptex (2 ^ (order - 4)))) where
      at :
          (nat_lt ptex (2 ^ (order - 4)) ≡ true) ⊎ (nat_lt ptex (2 ^ (order - 4)) ≡ false)
          → IsTame W (h_enter_plan order grants flags ptex pteh ptel)
      at (inl inside) =
          rw inside (words_tame W flags ptex (entered_words grants pteh ptel) stored)
      at (inr outside) = rw outside (refused_tame W)
