-- Worked values of the definitions, which the checker computes.
use Rattle.std.proofs.Common.{◌≡◌, ◌^◌, ◌-◌, refl, lit<, true, false, [], ◌∷◌, Some, None, inl, inr}
use Rattle.trace_io.specs.Outside.{Took, Put, AtEnd, Rose, counted, TookPast, PutPrefix}
use Rattle.trace_io.specs.Memory.{fails_next, new_source, read_count, after_read, new_sink, taken_bytes, write_count, after_write}

-- ---- the words of the outside
two_of_three_taken : Took (Some (7 ∷ 8 ∷ 9 ∷ [])) (7 ∷ 8 ∷ []) (Some (9 ∷ []))
two_of_three_taken = refl

two_put_behind_one : Put (Some (1 ∷ [])) (2 ∷ 3 ∷ []) (Some (1 ∷ 2 ∷ 3 ∷ []))
two_put_behind_one = refl

stops_telling : Put (Some (1 ∷ [])) (2 ∷ []) None
stops_telling = tt

at_the_end : AtEnd (Some [])
at_the_end = refl

rose_by_one : Rose 0 1
rose_by_one = inl (lit< tt)

stands_at_its_last_value : Rose (2 ^ 64 - 1) (2 ^ 64 - 1)
stands_at_its_last_value = inr refl

counts_stop : counted (2 ^ 64 - 1) ≡ 2 ^ 64 - 1
counts_stop = refl

-- Two bytes are one past a limit of one.
one_past_the_limit : TookPast 1 (Some (7 ∷ 8 ∷ 9 ∷ [])) (Some (9 ∷ []))
one_past_the_limit = (7 ∷ 8 ∷ [], lit< tt, refl, refl)

front_of_a_text : PutPrefix (1 ∷ 2 ∷ 3 ∷ []) (Some []) (Some (1 ∷ []))
front_of_a_text = (1 ∷ [], 2 ∷ 3 ∷ [], refl, refl, lit< tt)

-- ---- the source in memory

first_read_gives_a_piece : read_count (new_source (7 ∷ 8 ∷ 9 ∷ []) 2 (2 ∷ [])) 10 ≡ Some 2
first_read_gives_a_piece = refl

little_room_gives_less : read_count (new_source (7 ∷ 8 ∷ 9 ∷ []) 2 (2 ∷ [])) 1 ≡ Some 1
little_room_gives_less = refl

second_read_fails :
    read_count (after_read (new_source (7 ∷ 8 ∷ 9 ∷ []) 2 (2 ∷ [])) (Some 2)) 10 ≡ None
second_read_fails = refl

failed_read_keeps_the_bytes : (after_read (new_source (7 ∷ 8 ∷ []) 1 []) None).left ≡ 7 ∷ 8 ∷ []
failed_read_keeps_the_bytes = refl

failed_read_is_counted : (after_read (new_source (7 ∷ 8 ∷ []) 1 []) None).faults ≡ 1
failed_read_is_counted = refl

read_takes_the_first_bytes : (after_read (new_source (7 ∷ 8 ∷ 9 ∷ []) 2 []) (Some 2)).left ≡ 9 ∷ []
read_takes_the_first_bytes = refl

first_call_has_number_one : fails_next (1 ∷ []) 0 ≡ true
first_call_has_number_one = refl

no_call_has_number_zero : fails_next (0 ∷ []) 0 ≡ false
no_call_has_number_zero = refl

-- ---- the sink in memory
sink_takes_a_piece : write_count (new_sink 2 [] 8) 5 ≡ Some 2
sink_takes_a_piece = refl

sink_tells_what_fits :
    taken_bytes (after_write (new_sink 4 [] 2) (7 ∷ 8 ∷ 9 ∷ []) (Some 2)) ≡ Some (7 ∷ 8 ∷ [])
sink_tells_what_fits = refl

full_sink_tells_nothing :
    taken_bytes (after_write (new_sink 4 [] 2) (7 ∷ 8 ∷ 9 ∷ []) (Some 3)) ≡ None
full_sink_tells_nothing = refl

full_sink_keeps_its_room :
    (after_write (new_sink 4 [] 2) (7 ∷ 8 ∷ 9 ∷ []) (Some 3)).kept ≡ 7 ∷ 8 ∷ []
full_sink_keeps_its_room = refl
