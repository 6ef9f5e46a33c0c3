-- The script of generated load.
use Rattle.std.specs.Prelude.{ℕ, zero, suc, ◌+◌, ◌==◌, ◌%◌, ltb, List, [], ◌++◌, codes, decimal, if◌then◌else◌}
use Rattle.oz_freon.specs.declared.drawing.Deed.{Deed}
use Rattle.oz_freon.specs.declared.drawing.Deed.TheVariants.{Delete, Rename, Get, Leave}
use Rattle.oz_freon.specs.Drawing.{deed_from, length_from, words_at}

-- the texts of the numbers below this one, one after another
unfoldable pub texts_below : (ℕ → List ℕ) → ℕ → List ℕ
texts_below text zero = []
texts_below text (suc n) = texts_below text n ++ text n

abbrev pub bucket_line : ℕ → List ℕ
bucket_line bucket = codes "s bucket create /freon/bk" ++ decimal bucket ++ codes "\n"

-- ---- the lines of a key: its client and its bucket have the last digit of its number modulo 4

abbrev pub client_of : ℕ → List ℕ
client_of key = codes "w" ++ decimal (key % 4) ++ codes " "

abbrev pub path_of : ℕ → List ℕ
path_of key = codes "/freon/bk" ++ decimal (key % 4) ++ codes "/key-" ++ decimal key

-- the first line of each client waits for the buckets
abbrev pub after_buckets : ℕ → List ℕ
after_buckets key = if ltb key 4 then codes "after s 5 " else []

abbrev pub put_line : ℕ → ℕ → List ℕ
put_line key length =
    client_of key ++ after_buckets key ++ codes "key put " ++ path_of key ++ codes " fill " ++ decimal key ++ codes " "
    ++ decimal length ++ codes "\n"

-- a line that does this with a key
abbrev pub done_line : ℕ → List ℕ → List ℕ
done_line key words = client_of key ++ words ++ path_of key ++ codes "\n"

abbrev pub rename_line : ℕ → List ℕ
rename_line key = client_of key ++ codes "key rename " ++ path_of key ++ codes " old-" ++ decimal key ++ codes "\n"

abbrev pub deed_line : ℕ → Deed → List ℕ
deed_line key Delete = done_line key (codes "key delete ")
deed_line key Rename = rename_line key
deed_line key Get = done_line key (codes "key get ")
deed_line key Leave = []

abbrev pub key_text : ℕ → ℕ → Deed → List ℕ
key_text key length deed = put_line key length ++ deed_line key deed

abbrev pub key_lines : ℕ → ℕ → List ℕ
key_lines number key = key_text key (length_from (words_at number key)) (deed_from (words_at number key))

-- ---- the snapshots: each waits for the last line of the bucket's client, where it has one

abbrev pub lines_for : Deed → ℕ
lines_for Delete = 2
lines_for Rename = 2
lines_for Get = 2
lines_for Leave = 1

-- how many of them are this client's
abbrev pub lines_here : ℕ → ℕ → Deed → ℕ
lines_here client key deed = if key % 4 == client then lines_for deed else 0

-- how many lines a client has of so many keys
unfoldable pub lines_of : ℕ → ℕ → ℕ → ℕ
lines_of number client zero = 0
lines_of number client (suc key) =
    lines_of number client key + lines_here client key (deed_from (words_at number key))

abbrev pub after_lines : ℕ → ℕ → List ℕ
after_lines client lines = if ltb 0 lines then codes "after w" ++ decimal client ++ codes " " ++ decimal lines ++ codes " " else []

abbrev pub snapshot_text : ℕ → ℕ → List ℕ
snapshot_text client lines =
    codes "s " ++ after_lines client lines ++ codes "snapshot create /freon/bk" ++ decimal client ++ codes " day1\n"

abbrev pub snapshot_line : ℕ → ℕ → ℕ → List ℕ
snapshot_line number count client = snapshot_text client (lines_of number client count)

-- ---- the whole

abbrev pub freon_script : ℕ → ℕ → List ℕ
freon_script number count =
    codes "s volume create /freon\n" ++ texts_below bucket_line 4 ++ texts_below (key_lines number) count
    ++ texts_below (snapshot_line number count) 4 ++ codes "s admin drain\n"
