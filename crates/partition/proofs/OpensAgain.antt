-- An entry's words with R and C put back open as its state at stamp 0.
use Rattle.trace_read.proofs.StoredWords.{put_stored, stored_parts, stored_whole}
use Rattle.entry_model.specs.Reply.{words_of}
use Rattle.hpt_resize.proofs.StateBack.{state_back}
use Rattle.partition.specs.Laws.{OpensAgain}

pub opens_again : OpensAgain
opens_again grants s canonical valid stored =
    let parts = stored_parts grants s.dword0 s.dword1 stored in
    record {
      stored =
          stored_whole grants (words_of s).0 (words_of s).1
          (put_stored grants s.dword0 s.dword1 s.referenced s.changed parts);
      state = state_back s canonical valid parts.second;
    }
