-- The two tables of the source follow their rules: each is tested at every entry, by computation.
-- Assumes nothing.
use mathlib.Core.Path.{◌≡◌, refl, sym, ap}
use mathlib.Core.Bool.{Bool, ◌&&◌}
use mathlib.Core.List.{List, [], ◌∷◌}
use Prim.Native.Nat.{ℕ, ◌/◌, ◌%◌, ◌<◌}
use native.Mathlib.Omega.{arith}
use lib.Dec.{T, eqb, ltb, eqb→eq, ltb→lt}
use lib.ListN.{get_or}
use Rattle.lemmas.specs.lists.Every.{every-at, T-left, T-right}
use Rattle.lemmas.specs.lists.Xor.{◌⊕◌}
use Rattle.lemmas.specs.lists.Table.{table}
use Rattle.lemmas.specs.lists.TableLemmas.{table-self}
use Rattle.aes.specs.Field.{sub_byte, affine, affine_from, affine_bit, inverse, powers, ◌•◌, times, xtime}
use Rattle.aes.specs.Words.{bytes_of, part, RoundTable, word_of, round_table}
use Rattle.aes.proofs.Words.{digits}

unfoldable pub list : List ℕ
list =
    99 ∷ 124 ∷ 119 ∷ 123 ∷ 242 ∷ 107 ∷ 111 ∷ 197 ∷ 48 ∷ 1 ∷ 103 ∷ 43 ∷ 254 ∷ 215 ∷ 171 ∷ 118 ∷ 202 ∷ 130 ∷ 201 ∷ 125 ∷ 250 ∷ 89 ∷ 71 ∷
    240 ∷ 173 ∷ 212 ∷ 162 ∷ 175 ∷ 156 ∷ 164 ∷ 114 ∷ 192 ∷ 183 ∷ 253 ∷ 147 ∷ 38 ∷ 54 ∷ 63 ∷ 247 ∷ 204 ∷ 52 ∷ 165 ∷ 229 ∷ 241 ∷ 113 ∷ 216 ∷
    49 ∷ 21 ∷ 4 ∷ 199 ∷ 35 ∷ 195 ∷ 24 ∷ 150 ∷ 5 ∷ 154 ∷ 7 ∷ 18 ∷ 128 ∷ 226 ∷ 235 ∷ 39 ∷ 178 ∷ 117 ∷ 9 ∷ 131 ∷ 44 ∷ 26 ∷ 27 ∷ 110 ∷ 90 ∷
    160 ∷ 82 ∷ 59 ∷ 214 ∷ 179 ∷ 41 ∷ 227 ∷ 47 ∷ 132 ∷ 83 ∷ 209 ∷ 0 ∷ 237 ∷ 32 ∷ 252 ∷ 177 ∷ 91 ∷ 106 ∷ 203 ∷ 190 ∷ 57 ∷ 74 ∷ 76 ∷ 88 ∷
    207 ∷ 208 ∷ 239 ∷ 170 ∷ 251 ∷ 67 ∷ 77 ∷ 51 ∷ 133 ∷ 69 ∷ 249 ∷ 2 ∷ 127 ∷ 80 ∷ 60 ∷ 159 ∷ 168 ∷ 81 ∷ 163 ∷ 64 ∷ 143 ∷ 146 ∷ 157 ∷ 56 ∷
    245 ∷ 188 ∷ 182 ∷ 218 ∷ 33 ∷ 16 ∷ 255 ∷ 243 ∷ 210 ∷ 205 ∷ 12 ∷ 19 ∷ 236 ∷ 95 ∷ 151 ∷ 68 ∷ 23 ∷ 196 ∷ 167 ∷ 126 ∷ 61 ∷ 100 ∷ 93 ∷ 25 ∷
    115 ∷ 96 ∷ 129 ∷ 79 ∷ 220 ∷ 34 ∷ 42 ∷ 144 ∷ 136 ∷ 70 ∷ 238 ∷ 184 ∷ 20 ∷ 222 ∷ 94 ∷ 11 ∷ 219 ∷ 224 ∷ 50 ∷ 58 ∷ 10 ∷ 73 ∷ 6 ∷ 36 ∷ 92 ∷
    194 ∷ 211 ∷ 172 ∷ 98 ∷ 145 ∷ 149 ∷ 228 ∷ 121 ∷ 231 ∷ 200 ∷ 55 ∷ 109 ∷ 141 ∷ 213 ∷ 78 ∷ 169 ∷ 108 ∷ 86 ∷ 244 ∷ 234 ∷ 101 ∷ 122 ∷ 174 ∷
    8 ∷ 186 ∷ 120 ∷ 37 ∷ 46 ∷ 28 ∷ 166 ∷ 180 ∷ 198 ∷ 232 ∷ 221 ∷ 116 ∷ 31 ∷ 75 ∷ 189 ∷ 139 ∷ 138 ∷ 112 ∷ 62 ∷ 181 ∷ 102 ∷ 72 ∷ 3 ∷ 246 ∷
    14 ∷ 97 ∷ 53 ∷ 87 ∷ 185 ∷ 134 ∷ 193 ∷ 29 ∷ 158 ∷ 225 ∷ 248 ∷ 152 ∷ 17 ∷ 105 ∷ 217 ∷ 142 ∷ 148 ∷ 155 ∷ 30 ∷ 135 ∷ 233 ∷ 206 ∷ 85 ∷ 40 ∷
    223 ∷ 140 ∷ 161 ∷ 137 ∷ 13 ∷ 191 ∷ 230 ∷ 66 ∷ 104 ∷ 65 ∷ 153 ∷ 45 ∷ 15 ∷ 176 ∷ 84 ∷ 187 ∷ 22 ∷ []

unfoldable pub words : List ℕ
words =
    2774754246 ∷ 2222750968 ∷ 2574743534 ∷ 2373680118 ∷ 234025727 ∷ 3177933782 ∷ 2976870366 ∷ 1422247313 ∷ 1345335392 ∷ 50397442 ∷
    2842126286 ∷ 2099981142 ∷ 436141799 ∷ 1658312629 ∷ 3870010189 ∷ 2591454956 ∷ 1170918031 ∷ 2642575903 ∷ 1086966153 ∷ 2273148410 ∷
    368769775 ∷ 3948501426 ∷ 3376891790 ∷ 200339707 ∷ 3970805057 ∷ 1742001331 ∷ 4255294047 ∷ 3937382213 ∷ 3214711843 ∷ 4154762323 ∷
    2524082916 ∷ 1539358875 ∷ 3266819957 ∷ 486407649 ∷ 2928907069 ∷ 1780885068 ∷ 1513502316 ∷ 1094664062 ∷ 49805301 ∷ 1338821763 ∷
    1546925160 ∷ 4104496465 ∷ 887481809 ∷ 150073849 ∷ 2473685474 ∷ 1943591083 ∷ 1395732834 ∷ 1058346282 ∷ 201589768 ∷ 1388824469 ∷
    1696801606 ∷ 1589887901 ∷ 672667696 ∷ 2711000631 ∷ 251987210 ∷ 3046808111 ∷ 151455502 ∷ 907153956 ∷ 2608889883 ∷ 1038279391 ∷
    652995533 ∷ 1764173646 ∷ 3451040383 ∷ 2675275242 ∷ 453576978 ∷ 2659418909 ∷ 1949051992 ∷ 773462580 ∷ 756751158 ∷ 2993581788 ∷
    3998898868 ∷ 4221608027 ∷ 4132590244 ∷ 1295727478 ∷ 1641469623 ∷ 3467883389 ∷ 2066295122 ∷ 1055122397 ∷ 1898917726 ∷ 2542044179 ∷
    4115878822 ∷ 1758581177 ∷ 0 ∷ 753790401 ∷ 1612718144 ∷ 536673507 ∷ 3367088505 ∷ 3982187446 ∷ 3194645204 ∷ 1187761037 ∷ 3653156455 ∷
    1262041458 ∷ 3729410708 ∷ 3561770136 ∷ 3898103984 ∷ 1255133061 ∷ 1808847035 ∷ 720367557 ∷ 3853167183 ∷ 385612781 ∷ 3309519750 ∷
    3612167578 ∷ 1429418854 ∷ 2491778321 ∷ 3477423498 ∷ 284817897 ∷ 100794884 ∷ 2172616702 ∷ 4031795360 ∷ 1144798328 ∷ 3131023141 ∷
    3819481163 ∷ 4082192802 ∷ 4272137053 ∷ 3225436288 ∷ 2324664069 ∷ 2912064063 ∷ 3164445985 ∷ 1211644016 ∷ 83228145 ∷ 3753688163 ∷
    3249976951 ∷ 1977277103 ∷ 1663115586 ∷ 806359072 ∷ 452984805 ∷ 250868733 ∷ 1842533055 ∷ 1288555905 ∷ 336333848 ∷ 890442534 ∷
    804056259 ∷ 3781124030 ∷ 2727843637 ∷ 3427026056 ∷ 957814574 ∷ 1472513171 ∷ 4071073621 ∷ 2189328124 ∷ 1195195770 ∷ 2892260552 ∷
    3881655738 ∷ 723065138 ∷ 2507371494 ∷ 2690670784 ∷ 2558624025 ∷ 3511635870 ∷ 2145180835 ∷ 1713513028 ∷ 2116692564 ∷ 2878378043 ∷
    2206763019 ∷ 3393603212 ∷ 703524551 ∷ 3552098411 ∷ 1007948840 ∷ 2044649127 ∷ 3797835452 ∷ 487262998 ∷ 1994120109 ∷ 1004593371 ∷
    1446130276 ∷ 1312438900 ∷ 503974420 ∷ 3679013266 ∷ 168166924 ∷ 1814307912 ∷ 3831258296 ∷ 1573044895 ∷ 1859376061 ∷ 4021070915 ∷
    2791465668 ∷ 2828112185 ∷ 2761266481 ∷ 937747667 ∷ 2339994098 ∷ 854058965 ∷ 1137232011 ∷ 1496790894 ∷ 3077402074 ∷ 2358086913 ∷
    1691735473 ∷ 3528347292 ∷ 3769215305 ∷ 3027004632 ∷ 4199962284 ∷ 133494003 ∷ 636152527 ∷ 2942657994 ∷ 2390391540 ∷ 3920539207 ∷
    403179536 ∷ 3585784431 ∷ 2289596656 ∷ 1864705354 ∷ 1915629148 ∷ 605822008 ∷ 4054230615 ∷ 3350508659 ∷ 1371981463 ∷ 602466507 ∷
    2094914977 ∷ 2624877800 ∷ 555687742 ∷ 3712699286 ∷ 3703422305 ∷ 2257292045 ∷ 2240449039 ∷ 2423288032 ∷ 1111375484 ∷ 3300242801 ∷
    2858837708 ∷ 3628615824 ∷ 84083462 ∷ 32962295 ∷ 302911004 ∷ 2741068226 ∷ 1597322602 ∷ 4183250862 ∷ 3501832553 ∷ 2441512471 ∷
    1489093017 ∷ 656219450 ∷ 3114180135 ∷ 954327513 ∷ 335083755 ∷ 3013122091 ∷ 856756514 ∷ 3144247762 ∷ 1893325225 ∷ 2307821063 ∷
    2811532339 ∷ 3063651117 ∷ 572399164 ∷ 2458355477 ∷ 552200649 ∷ 1238290055 ∷ 4283782570 ∷ 2015897680 ∷ 2061492133 ∷ 2408352771 ∷
    4171342169 ∷ 2156497161 ∷ 386731290 ∷ 3669999461 ∷ 837215959 ∷ 3326231172 ∷ 3093850320 ∷ 3275833730 ∷ 2962856233 ∷ 1999449434 ∷
    286199582 ∷ 3417354363 ∷ 4233385128 ∷ 3602627437 ∷ 974525996 ∷ []

right : ℕ → ℕ → Bool
right b s = eqb s (sub_byte b)

list-rule : (b : ℕ) → b < 256 → get_or list b 0 ≡ sub_byte b
unfolding list right sub_byte affine affine_from affine_bit inverse powers ◌•◌ times ◌⊕◌ xtime
list-rule b h = eqb→eq (get_or list b 0) (sub_byte b) (every-at right list tt b h)

pub substitutes : list ≡ table 256 sub_byte
unfolding list
substitutes = sym (table-self list 0 256 sub_byte refl (λ b h. sym (list-rule b h)))

-- the bytes of x are what s adds in row 0
fits : ℕ → ℕ → Bool
fits s x =
    eqb (x % 256) (2 • s) && (eqb (x / 256 % 256) s && (eqb (x / 65536 % 256) s && eqb (x / 16777216 % 256) (3 • s)))

fitting : (s x : ℕ) → T (fits s x) → bytes_of x ≡ part s
unfolding fits
fitting s x t =
    let t1 = T-right (eqb (x % 256) (2 • s)) (eqb (x / 256 % 256) s && (eqb (x / 65536 % 256) s && eqb (x / 16777216 % 256) (3 • s))) t in
    let t2 = T-right (eqb (x / 256 % 256) s) (eqb (x / 65536 % 256) s && eqb (x / 16777216 % 256) (3 • s)) t1 in
    let e0 : x % 256 ≡ 2 • s = eqb→eq (x % 256) (2 • s) (T-left (eqb (x % 256) (2 • s)) _ t) in
    let e1 : x / 256 % 256 ≡ s = eqb→eq (x / 256 % 256) s (T-left (eqb (x / 256 % 256) s) _ t1) in
    let e2 : x / 65536 % 256 ≡ s = eqb→eq (x / 65536 % 256) s (T-left (eqb (x / 65536 % 256) s) (eqb (x / 16777216 % 256) (3 • s)) t2) in
    let e3 : x / 16777216 % 256 ≡ 3 • s
    = eqb→eq (x / 16777216 % 256) (3 • s) (T-right (eqb (x / 65536 % 256) s) (eqb (x / 16777216 % 256) (3 • s)) t2) in
    cc

-- against the list as it is written: computing each inverse again would take long
fits-list : ℕ → ℕ → Bool
fits-list b x = fits (get_or list b 0) x

words-test : (b : ℕ) → b < 256 → T (fits-list b (get_or words b 0))
unfolding list words fits-list fits ◌•◌ times ◌⊕◌ xtime
words-test b h = every-at fits-list words tt b h

words-rule : (b : ℕ) → b < 256 → bytes_of (get_or words b 0) ≡ part (sub_byte b)
unfolding fits-list
words-rule b h = fitting (sub_byte b) (get_or words b 0) (rw (list-rule b h) at (words-test b h))

pub round-table : RoundTable words
round-table = record { rule = words-rule }

-- each entry is below 2^32, so its four bytes give it back
small : ℕ → ℕ → Bool
small b x = ltb x 4294967296

words_small : (b : ℕ) → b < 256 → get_or words b 0 < 4294967296
unfolding words small
words_small b h = ltb→lt (get_or words b 0) 4294967296 (every-at small words tt b h)

entry-is : (w s : ℕ) → w < 4294967296 → bytes_of w ≡ part s → w ≡ word_of (2 • s) s s (3 • s)
entry-is w s h e =
    let e0 : w % 256 ≡ 2 • s = ap (λ (l : List ℕ). get_or l 0 0) e in
    let e1 : w / 256 % 256 ≡ s = ap (λ (l : List ℕ). get_or l 1 0) e in
    let e2 : w / 65536 % 256 ≡ s = ap (λ (l : List ℕ). get_or l 2 0) e in
    let e3 : w / 16777216 % 256 ≡ 3 • s = ap (λ (l : List ℕ). get_or l 3 0) e in
    let d = digits w h in
    omega arith

pub words-table : words ≡ round_table
unfolding words round_table
words-table =
    sym (table-self words 0 256 (λ (b : ℕ). word_of (2 • sub_byte b) (sub_byte b) (sub_byte b) (3 • sub_byte b)) refl
    (λ b h. sym (entry-is (get_or words b 0) (sub_byte b) (words_small b h) (words-rule b h))))

pub table-right : RoundTable round_table
table-right = rw (← words-table) round-table
