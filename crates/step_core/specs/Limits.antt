-- The limits of the table.
use Rattle.std.specs.Prelude.{ℕ}

-- publications, which are as many as the log's places
abbrev pub publication_limit : ℕ
publication_limit = 4095

-- the least size of the cells, and of the memos
abbrev pub least_places : ℕ
least_places = 64

-- the greatest size of the cells, and of the memos
abbrev pub place_limit : ℕ
place_limit = 1048576

-- authors, which are as many as sessions
abbrev pub author_limit : ℕ
author_limit = 16
