-- The pages that a guest may map into memory that is granted to it.
use Rattle.std.specs.Prelude.{ℕ, ◌^◌, ◌==◌, ◌||◌, List, Bool, false, Option, Some, None, if◌then◌else◌}
use Rattle.std.specs.Option.{option_map_or}
use Rattle.page_sizes.specs.declared.size.PageSize.{PageSize}
use Rattle.page_sizes.specs.Sizes.{size_of}
use Rattle.hpte_fields.specs.Fields.{normal_words, frame_of, wimg_of}
use Rattle.frame_grants.specs.declared.grant.Grant.{Grant}
use Rattle.frame_grants.specs.declared.grant.Kind.{Kind}
use Rattle.frame_grants.specs.declared.grant.Kind.TheVariants.{Ram, Io}
use Rattle.frame_grants.specs.Grants.{machine_range}

-- The storage control bits W, I, M and G that suit what is granted. Main storage takes M alone, or
-- W, I and M, which is strong access ordering; a device's registers take I, with G or without it.
abbrev pub suits_kind : ℕ → Kind → Bool
suits_kind wimg Ram = (wimg == 0x2) || (wimg == 0xE)
suits_kind wimg Io = (wimg == 0x4) || (wimg == 0x5)

-- One grant holds the whole page of this size, and the storage control bits suit it.
abbrev pub suits_size : List Grant → ℕ → PageSize → Bool
suits_size grants dword1 size =
    option_map_or
    (λ (x : ℕ × Kind). suits_kind (wimg_of dword1) x.1)
    (machine_range grants (frame_of dword1 size.actual) (2 ^ size.actual))
    false

-- One grant holds the whole page that these doublewords map, and the storage control bits suit it.
unfoldable pub suits_grants : List Grant → ℕ → ℕ → Bool
suits_grants grants dword0 dword1 =
    option_map_or (suits_size grants dword1) (size_of dword0 dword1) false

-- The words that can be stored, where their page suits the grants.
abbrev pub suited_words : List Grant → Option (ℕ × ℕ) → Option (ℕ × ℕ)
suited_words grants None = None
suited_words grants (Some w) = if suits_grants grants w.0 w.1 then Some w else None

-- The doublewords that H_ENTER stores for those of a guest. There are none where these can't be
-- stored, or where no single grant holds the page that they map with these storage control bits.
abbrev pub entered_words : List Grant → ℕ → ℕ → Option (ℕ × ℕ)
entered_words grants pteh ptel = suited_words grants (normal_words pteh ptel)
