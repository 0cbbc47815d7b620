-- A run of four regions: a write that touches two of them, one that touches a third, and a barrier.
use Rattle.std.proofs.Common.{List, [], ◌∷◌, false}
use Rattle.std.specs.Prelude.{None}
use Rattle.salus_types.specs.declared.names.Sender.TheVariants as sender
use Rattle.schedule_text.specs.declared.schedule.Volume.{Volume}
use Rattle.schedule_text.specs.declared.schedule.Event.{Event}
use Rattle.schedule_text.specs.declared.schedule.Event.TheVariants as event
use Rattle.salus_model.specs.declared.trace.Request.TheVariants as request
use Rattle.salus_model.specs.declared.trace.Handed.TheVariants as handed
use Rattle.salus_model.specs.declared.trace.TraceStep.{TraceStep}
use Rattle.salus_model.specs.Following.{Posted}

abbrev pub volume_here : Volume
volume_here = record { geometry = record { regions_log = 2; height = 0; block = 1; replicas = 1 }; key = 107 ∷ [] }

abbrev pub events_here : List Event
events_here =
    event.Write (record { block = 0; bytes = 1 ∷ [] } ∷ record { block = 2; bytes = 2 ∷ [] } ∷ [])
    ∷ event.Write (record { block = 1; bytes = 3 ∷ [] } ∷ [])
    ∷ event.Barrier
    ∷ event.Settle 100 ∷ []

abbrev pub posts_here : List Posted
posts_here =
    record { from = sender.Client; to = sender.Node (record { region = 0; replica = 0 }); bytes = 4 ∷ 0 ∷ 0 ∷ 0 ∷ 0 ∷ 0 ∷ 0 ∷ 0 ∷ 1 ∷ 0 ∷ 0 ∷ 0 ∷ 1 ∷ 0 ∷ 0 ∷ 0 ∷ 1 ∷ 0 ∷ 0 ∷ 0 ∷ 0 ∷ 0 ∷ 0 ∷ 0 ∷ 0 ∷ 0 ∷ 0 ∷ 0 ∷ 0 ∷ [] }
    ∷ record { from = sender.Client; to = sender.Node (record { region = 2; replica = 0 }); bytes = 4 ∷ 0 ∷ 0 ∷ 0 ∷ 0 ∷ 0 ∷ 0 ∷ 0 ∷ 1 ∷ 0 ∷ 0 ∷ 0 ∷ 2 ∷ 0 ∷ 0 ∷ 0 ∷ 1 ∷ 0 ∷ 0 ∷ 0 ∷ 2 ∷ 0 ∷ 0 ∷ 0 ∷ 0 ∷ 0 ∷ 0 ∷ 0 ∷ 0 ∷ [] }
    ∷ record { from = sender.Node (record { region = 0; replica = 0 }); to = sender.Client; bytes = 5 ∷ 0 ∷ 0 ∷ 0 ∷ 0 ∷ 0 ∷ 0 ∷ 0 ∷ 1 ∷ 0 ∷ 0 ∷ 0 ∷ 1 ∷ 0 ∷ 0 ∷ 0 ∷ 1 ∷ 0 ∷ 0 ∷ 0 ∷ 0 ∷ 0 ∷ 0 ∷ 0 ∷ 0 ∷ 0 ∷ 0 ∷ 0 ∷ 0 ∷ 0 ∷ 1 ∷ 0 ∷ 0 ∷ [] }
    ∷ record { from = sender.Node (record { region = 2; replica = 0 }); to = sender.Client; bytes = 5 ∷ 0 ∷ 0 ∷ 0 ∷ 0 ∷ 0 ∷ 0 ∷ 0 ∷ 1 ∷ 0 ∷ 0 ∷ 0 ∷ 2 ∷ 0 ∷ 0 ∷ 0 ∷ 1 ∷ 0 ∷ 0 ∷ 0 ∷ 2 ∷ 0 ∷ 0 ∷ 0 ∷ 0 ∷ 0 ∷ 0 ∷ 0 ∷ 0 ∷ 0 ∷ 1 ∷ 0 ∷ 0 ∷ [] }
    ∷ record { from = sender.Client; to = sender.Node (record { region = 0; replica = 0 }); bytes = 1 ∷ 1 ∷ 0 ∷ 0 ∷ 0 ∷ 0 ∷ 0 ∷ 0 ∷ 0 ∷ 1 ∷ 0 ∷ 0 ∷ 0 ∷ 0 ∷ 0 ∷ 0 ∷ 0 ∷ 1 ∷ 0 ∷ 0 ∷ 0 ∷ 0 ∷ 0 ∷ 0 ∷ 0 ∷ 0 ∷ 0 ∷ 0 ∷ 0 ∷ 0 ∷ 4 ∷ 0 ∷ 0 ∷ 0 ∷ 0 ∷ 0 ∷ 0 ∷ 0 ∷ 1 ∷ 0 ∷ 0 ∷ 0 ∷ 0 ∷ 0 ∷ 0 ∷ 0 ∷ 0 ∷ 0 ∷ 0 ∷ 0 ∷ 0 ∷ 0 ∷ 0 ∷ 0 ∷ 1 ∷ 0 ∷ 0 ∷ 0 ∷ 0 ∷ 0 ∷ 0 ∷ 0 ∷ 0 ∷ 2 ∷ 0 ∷ 0 ∷ 0 ∷ 2 ∷ 180 ∷ 19 ∷ 244 ∷ 125 ∷ 19 ∷ 238 ∷ 47 ∷ 230 ∷ 200 ∷ 69 ∷ 178 ∷ 238 ∷ 20 ∷ 26 ∷ 248 ∷ 29 ∷ 232 ∷ 88 ∷ 223 ∷ 78 ∷ 197 ∷ 73 ∷ 165 ∷ 139 ∷ 121 ∷ 112 ∷ 187 ∷ 150 ∷ 100 ∷ 91 ∷ 200 ∷ 210 ∷ 82 ∷ 139 ∷ 136 ∷ 163 ∷ 81 ∷ 57 ∷ 189 ∷ 38 ∷ 57 ∷ 69 ∷ 100 ∷ 32 ∷ 82 ∷ 38 ∷ 66 ∷ 36 ∷ 71 ∷ 150 ∷ 65 ∷ 196 ∷ 238 ∷ 203 ∷ 37 ∷ 169 ∷ 64 ∷ 121 ∷ 104 ∷ 237 ∷ 11 ∷ 56 ∷ 19 ∷ 66 ∷ 1 ∷ 0 ∷ 0 ∷ 0 ∷ 1 ∷ 1 ∷ 143 ∷ 206 ∷ 253 ∷ 103 ∷ 213 ∷ 106 ∷ 5 ∷ 218 ∷ 16 ∷ 193 ∷ 97 ∷ 163 ∷ 135 ∷ 42 ∷ 132 ∷ 192 ∷ 4 ∷ 254 ∷ 86 ∷ 102 ∷ 135 ∷ 80 ∷ 33 ∷ 28 ∷ 246 ∷ 57 ∷ 78 ∷ 106 ∷ 45 ∷ 61 ∷ 12 ∷ 69 ∷ [] }
    ∷ record { from = sender.Client; to = sender.Node (record { region = 2; replica = 0 }); bytes = 1 ∷ 1 ∷ 0 ∷ 0 ∷ 0 ∷ 0 ∷ 0 ∷ 0 ∷ 0 ∷ 1 ∷ 0 ∷ 0 ∷ 0 ∷ 0 ∷ 0 ∷ 0 ∷ 0 ∷ 1 ∷ 0 ∷ 2 ∷ 0 ∷ 0 ∷ 0 ∷ 0 ∷ 0 ∷ 0 ∷ 0 ∷ 0 ∷ 0 ∷ 0 ∷ 4 ∷ 0 ∷ 0 ∷ 0 ∷ 0 ∷ 0 ∷ 0 ∷ 0 ∷ 1 ∷ 0 ∷ 0 ∷ 0 ∷ 0 ∷ 0 ∷ 0 ∷ 0 ∷ 0 ∷ 0 ∷ 0 ∷ 0 ∷ 0 ∷ 0 ∷ 0 ∷ 0 ∷ 1 ∷ 0 ∷ 0 ∷ 0 ∷ 0 ∷ 0 ∷ 0 ∷ 0 ∷ 0 ∷ 2 ∷ 0 ∷ 0 ∷ 0 ∷ 2 ∷ 252 ∷ 240 ∷ 166 ∷ 199 ∷ 0 ∷ 221 ∷ 19 ∷ 226 ∷ 116 ∷ 182 ∷ 251 ∷ 168 ∷ 222 ∷ 234 ∷ 141 ∷ 217 ∷ 178 ∷ 110 ∷ 78 ∷ 237 ∷ 222 ∷ 52 ∷ 149 ∷ 113 ∷ 124 ∷ 172 ∷ 132 ∷ 8 ∷ 201 ∷ 197 ∷ 23 ∷ 127 ∷ 82 ∷ 139 ∷ 136 ∷ 163 ∷ 81 ∷ 57 ∷ 189 ∷ 38 ∷ 57 ∷ 69 ∷ 100 ∷ 32 ∷ 82 ∷ 38 ∷ 66 ∷ 36 ∷ 71 ∷ 150 ∷ 65 ∷ 196 ∷ 238 ∷ 203 ∷ 37 ∷ 169 ∷ 64 ∷ 121 ∷ 104 ∷ 237 ∷ 11 ∷ 56 ∷ 19 ∷ 66 ∷ 1 ∷ 0 ∷ 0 ∷ 0 ∷ 1 ∷ 2 ∷ 206 ∷ 190 ∷ 88 ∷ 79 ∷ 68 ∷ 97 ∷ 221 ∷ 51 ∷ 29 ∷ 36 ∷ 162 ∷ 65 ∷ 169 ∷ 144 ∷ 147 ∷ 233 ∷ 225 ∷ 146 ∷ 87 ∷ 2 ∷ 155 ∷ 74 ∷ 227 ∷ 244 ∷ 209 ∷ 133 ∷ 189 ∷ 196 ∷ 4 ∷ 39 ∷ 55 ∷ 119 ∷ [] }
    ∷ record { from = sender.Client; to = sender.Node (record { region = 1; replica = 0 }); bytes = 4 ∷ 0 ∷ 0 ∷ 0 ∷ 0 ∷ 0 ∷ 0 ∷ 0 ∷ 1 ∷ 0 ∷ 0 ∷ 0 ∷ 1 ∷ 0 ∷ 0 ∷ 0 ∷ 2 ∷ 0 ∷ 0 ∷ 0 ∷ 1 ∷ 0 ∷ 0 ∷ 0 ∷ 0 ∷ 0 ∷ 0 ∷ 0 ∷ 0 ∷ [] }
    ∷ record { from = sender.Node (record { region = 0; replica = 0 }); to = sender.Node (record { region = 0; replica = 0 }); bytes = 2 ∷ 0 ∷ 0 ∷ 0 ∷ 0 ∷ 0 ∷ 0 ∷ 0 ∷ 1 ∷ 0 ∷ 0 ∷ 0 ∷ 0 ∷ 0 ∷ 0 ∷ 0 ∷ 1 ∷ 0 ∷ 0 ∷ 180 ∷ 19 ∷ 244 ∷ 125 ∷ 19 ∷ 238 ∷ 47 ∷ 230 ∷ 200 ∷ 69 ∷ 178 ∷ 238 ∷ 20 ∷ 26 ∷ 248 ∷ 29 ∷ 232 ∷ 88 ∷ 223 ∷ 78 ∷ 197 ∷ 73 ∷ 165 ∷ 139 ∷ 121 ∷ 112 ∷ 187 ∷ 150 ∷ 100 ∷ 91 ∷ 200 ∷ 210 ∷ [] }
    ∷ record { from = sender.Node (record { region = 2; replica = 0 }); to = sender.Node (record { region = 0; replica = 0 }); bytes = 2 ∷ 0 ∷ 0 ∷ 0 ∷ 0 ∷ 0 ∷ 0 ∷ 0 ∷ 1 ∷ 0 ∷ 0 ∷ 0 ∷ 0 ∷ 0 ∷ 0 ∷ 0 ∷ 1 ∷ 0 ∷ 2 ∷ 252 ∷ 240 ∷ 166 ∷ 199 ∷ 0 ∷ 221 ∷ 19 ∷ 226 ∷ 116 ∷ 182 ∷ 251 ∷ 168 ∷ 222 ∷ 234 ∷ 141 ∷ 217 ∷ 178 ∷ 110 ∷ 78 ∷ 237 ∷ 222 ∷ 52 ∷ 149 ∷ 113 ∷ 124 ∷ 172 ∷ 132 ∷ 8 ∷ 201 ∷ 197 ∷ 23 ∷ 127 ∷ [] }
    ∷ record { from = sender.Node (record { region = 1; replica = 0 }); to = sender.Client; bytes = 5 ∷ 0 ∷ 0 ∷ 0 ∷ 0 ∷ 0 ∷ 0 ∷ 0 ∷ 1 ∷ 0 ∷ 0 ∷ 0 ∷ 1 ∷ 0 ∷ 0 ∷ 0 ∷ 2 ∷ 0 ∷ 0 ∷ 0 ∷ 1 ∷ 0 ∷ 0 ∷ 0 ∷ 0 ∷ 0 ∷ 0 ∷ 0 ∷ 0 ∷ 0 ∷ 1 ∷ 0 ∷ 0 ∷ [] }
    ∷ record { from = sender.Node (record { region = 0; replica = 0 }); to = sender.Client; bytes = 3 ∷ 0 ∷ 0 ∷ 0 ∷ 0 ∷ 0 ∷ 0 ∷ 0 ∷ 1 ∷ 0 ∷ 0 ∷ 0 ∷ 0 ∷ 0 ∷ 0 ∷ 0 ∷ 1 ∷ [] }
    ∷ record { from = sender.Node (record { region = 0; replica = 0 }); to = sender.Node (record { region = 0; replica = 0 }); bytes = 3 ∷ 0 ∷ 0 ∷ 0 ∷ 0 ∷ 0 ∷ 0 ∷ 0 ∷ 1 ∷ 0 ∷ 0 ∷ 0 ∷ 0 ∷ 0 ∷ 0 ∷ 0 ∷ 1 ∷ [] }
    ∷ record { from = sender.Node (record { region = 0; replica = 0 }); to = sender.Node (record { region = 1; replica = 0 }); bytes = 3 ∷ 0 ∷ 0 ∷ 0 ∷ 0 ∷ 0 ∷ 0 ∷ 0 ∷ 1 ∷ 0 ∷ 0 ∷ 0 ∷ 0 ∷ 0 ∷ 0 ∷ 0 ∷ 1 ∷ [] }
    ∷ record { from = sender.Node (record { region = 0; replica = 0 }); to = sender.Node (record { region = 2; replica = 0 }); bytes = 3 ∷ 0 ∷ 0 ∷ 0 ∷ 0 ∷ 0 ∷ 0 ∷ 0 ∷ 1 ∷ 0 ∷ 0 ∷ 0 ∷ 0 ∷ 0 ∷ 0 ∷ 0 ∷ 1 ∷ [] }
    ∷ record { from = sender.Node (record { region = 0; replica = 0 }); to = sender.Node (record { region = 3; replica = 0 }); bytes = 3 ∷ 0 ∷ 0 ∷ 0 ∷ 0 ∷ 0 ∷ 0 ∷ 0 ∷ 1 ∷ 0 ∷ 0 ∷ 0 ∷ 0 ∷ 0 ∷ 0 ∷ 0 ∷ 1 ∷ [] }
    ∷ record { from = sender.Client; to = sender.Node (record { region = 1; replica = 0 }); bytes = 1 ∷ 1 ∷ 0 ∷ 0 ∷ 0 ∷ 0 ∷ 0 ∷ 0 ∷ 0 ∷ 1 ∷ 0 ∷ 0 ∷ 0 ∷ 0 ∷ 0 ∷ 0 ∷ 0 ∷ 2 ∷ 0 ∷ 1 ∷ 0 ∷ 0 ∷ 0 ∷ 0 ∷ 0 ∷ 0 ∷ 0 ∷ 0 ∷ 0 ∷ 0 ∷ 4 ∷ 0 ∷ 0 ∷ 0 ∷ 0 ∷ 0 ∷ 0 ∷ 0 ∷ 1 ∷ 0 ∷ 0 ∷ 0 ∷ 0 ∷ 0 ∷ 0 ∷ 0 ∷ 2 ∷ 0 ∷ 0 ∷ 0 ∷ 0 ∷ 0 ∷ 0 ∷ 0 ∷ 1 ∷ 0 ∷ 0 ∷ 0 ∷ 0 ∷ 0 ∷ 0 ∷ 0 ∷ 0 ∷ 1 ∷ 0 ∷ 1 ∷ 88 ∷ 60 ∷ 125 ∷ 251 ∷ 123 ∷ 48 ∷ 85 ∷ 217 ∷ 148 ∷ 101 ∷ 84 ∷ 64 ∷ 50 ∷ 165 ∷ 113 ∷ 225 ∷ 10 ∷ 19 ∷ 75 ∷ 27 ∷ 111 ∷ 118 ∷ 148 ∷ 34 ∷ 187 ∷ 183 ∷ 31 ∷ 215 ∷ 250 ∷ 22 ∷ 122 ∷ 93 ∷ 30 ∷ 65 ∷ 0 ∷ 103 ∷ 198 ∷ 72 ∷ 156 ∷ 248 ∷ 201 ∷ 252 ∷ 49 ∷ 145 ∷ 208 ∷ 2 ∷ 143 ∷ 210 ∷ 29 ∷ 8 ∷ 14 ∷ 35 ∷ 14 ∷ 49 ∷ 87 ∷ 154 ∷ 74 ∷ 15 ∷ 180 ∷ 247 ∷ 252 ∷ 211 ∷ 126 ∷ 252 ∷ 1 ∷ 0 ∷ 0 ∷ 0 ∷ 1 ∷ 3 ∷ 84 ∷ 29 ∷ 226 ∷ 120 ∷ 108 ∷ 157 ∷ 170 ∷ 115 ∷ 190 ∷ 171 ∷ 144 ∷ 205 ∷ 226 ∷ 23 ∷ 40 ∷ 161 ∷ 217 ∷ 59 ∷ 62 ∷ 11 ∷ 228 ∷ 147 ∷ 172 ∷ 117 ∷ 187 ∷ 110 ∷ 248 ∷ 10 ∷ 8 ∷ 69 ∷ 188 ∷ 3 ∷ [] }
    ∷ record { from = sender.Node (record { region = 1; replica = 0 }); to = sender.Node (record { region = 1; replica = 0 }); bytes = 2 ∷ 0 ∷ 0 ∷ 0 ∷ 0 ∷ 0 ∷ 0 ∷ 0 ∷ 1 ∷ 0 ∷ 0 ∷ 0 ∷ 0 ∷ 0 ∷ 0 ∷ 0 ∷ 2 ∷ 0 ∷ 1 ∷ 88 ∷ 60 ∷ 125 ∷ 251 ∷ 123 ∷ 48 ∷ 85 ∷ 217 ∷ 148 ∷ 101 ∷ 84 ∷ 64 ∷ 50 ∷ 165 ∷ 113 ∷ 225 ∷ 10 ∷ 19 ∷ 75 ∷ 27 ∷ 111 ∷ 118 ∷ 148 ∷ 34 ∷ 187 ∷ 183 ∷ 31 ∷ 215 ∷ 250 ∷ 22 ∷ 122 ∷ 93 ∷ [] }
    ∷ record { from = sender.Node (record { region = 1; replica = 0 }); to = sender.Client; bytes = 3 ∷ 0 ∷ 0 ∷ 0 ∷ 0 ∷ 0 ∷ 0 ∷ 0 ∷ 1 ∷ 0 ∷ 0 ∷ 0 ∷ 0 ∷ 0 ∷ 0 ∷ 0 ∷ 2 ∷ [] }
    ∷ record { from = sender.Node (record { region = 1; replica = 0 }); to = sender.Node (record { region = 0; replica = 0 }); bytes = 3 ∷ 0 ∷ 0 ∷ 0 ∷ 0 ∷ 0 ∷ 0 ∷ 0 ∷ 1 ∷ 0 ∷ 0 ∷ 0 ∷ 0 ∷ 0 ∷ 0 ∷ 0 ∷ 2 ∷ [] }
    ∷ record { from = sender.Node (record { region = 1; replica = 0 }); to = sender.Node (record { region = 1; replica = 0 }); bytes = 3 ∷ 0 ∷ 0 ∷ 0 ∷ 0 ∷ 0 ∷ 0 ∷ 0 ∷ 1 ∷ 0 ∷ 0 ∷ 0 ∷ 0 ∷ 0 ∷ 0 ∷ 0 ∷ 2 ∷ [] }
    ∷ record { from = sender.Node (record { region = 1; replica = 0 }); to = sender.Node (record { region = 2; replica = 0 }); bytes = 3 ∷ 0 ∷ 0 ∷ 0 ∷ 0 ∷ 0 ∷ 0 ∷ 0 ∷ 1 ∷ 0 ∷ 0 ∷ 0 ∷ 0 ∷ 0 ∷ 0 ∷ 0 ∷ 2 ∷ [] }
    ∷ record { from = sender.Node (record { region = 1; replica = 0 }); to = sender.Node (record { region = 3; replica = 0 }); bytes = 3 ∷ 0 ∷ 0 ∷ 0 ∷ 0 ∷ 0 ∷ 0 ∷ 0 ∷ 1 ∷ 0 ∷ 0 ∷ 0 ∷ 0 ∷ 0 ∷ 0 ∷ 0 ∷ 2 ∷ [] }
    ∷ []

abbrev pub trace_here : List TraceStep
trace_here =
    record { event = 1; party = sender.Client; handed = handed.Asked (request.Write (record { block = 0; bytes = 1 ∷ [] } ∷ record { block = 2; bytes = 2 ∷ [] } ∷ [])); sent = 2; failed = false; loaded = None }
    ∷ record { event = 2; party = sender.Client; handed = handed.Asked (request.Write (record { block = 1; bytes = 3 ∷ [] } ∷ [])); sent = 2; failed = false; loaded = None }
    ∷ record { event = 3; party = sender.Client; handed = handed.Asked request.Barrier; sent = 2; failed = false; loaded = None }
    ∷ record { event = 4; party = sender.Node (record { region = 0; replica = 0 }); handed = handed.Deliver 1; sent = 3; failed = false; loaded = None }
    ∷ record { event = 4; party = sender.Node (record { region = 2; replica = 0 }); handed = handed.Deliver 2; sent = 4; failed = false; loaded = None }
    ∷ record { event = 4; party = sender.Client; handed = handed.Deliver 3; sent = 4; failed = false; loaded = None }
    ∷ record { event = 4; party = sender.Client; handed = handed.Deliver 4; sent = 7; failed = false; loaded = None }
    ∷ record { event = 4; party = sender.Node (record { region = 0; replica = 0 }); handed = handed.Deliver 5; sent = 8; failed = false; loaded = None }
    ∷ record { event = 4; party = sender.Node (record { region = 2; replica = 0 }); handed = handed.Deliver 6; sent = 9; failed = false; loaded = None }
    ∷ record { event = 4; party = sender.Node (record { region = 1; replica = 0 }); handed = handed.Deliver 7; sent = 10; failed = false; loaded = None }
    ∷ record { event = 4; party = sender.Node (record { region = 0; replica = 0 }); handed = handed.Deliver 8; sent = 10; failed = false; loaded = None }
    ∷ record { event = 4; party = sender.Node (record { region = 0; replica = 0 }); handed = handed.Deliver 9; sent = 15; failed = false; loaded = None }
    ∷ record { event = 4; party = sender.Client; handed = handed.Deliver 10; sent = 16; failed = false; loaded = None }
    ∷ record { event = 4; party = sender.Client; handed = handed.Deliver 11; sent = 16; failed = false; loaded = None }
    ∷ record { event = 4; party = sender.Node (record { region = 0; replica = 0 }); handed = handed.Deliver 12; sent = 16; failed = false; loaded = None }
    ∷ record { event = 4; party = sender.Node (record { region = 1; replica = 0 }); handed = handed.Deliver 13; sent = 16; failed = false; loaded = None }
    ∷ record { event = 4; party = sender.Node (record { region = 2; replica = 0 }); handed = handed.Deliver 14; sent = 16; failed = false; loaded = None }
    ∷ record { event = 4; party = sender.Node (record { region = 3; replica = 0 }); handed = handed.Deliver 15; sent = 16; failed = false; loaded = None }
    ∷ record { event = 4; party = sender.Node (record { region = 1; replica = 0 }); handed = handed.Deliver 16; sent = 17; failed = false; loaded = None }
    ∷ record { event = 4; party = sender.Node (record { region = 1; replica = 0 }); handed = handed.Deliver 17; sent = 22; failed = false; loaded = None }
    ∷ record { event = 4; party = sender.Client; handed = handed.Deliver 18; sent = 22; failed = false; loaded = None }
    ∷ record { event = 4; party = sender.Node (record { region = 0; replica = 0 }); handed = handed.Deliver 19; sent = 22; failed = false; loaded = None }
    ∷ record { event = 4; party = sender.Node (record { region = 1; replica = 0 }); handed = handed.Deliver 20; sent = 22; failed = false; loaded = None }
    ∷ record { event = 4; party = sender.Node (record { region = 2; replica = 0 }); handed = handed.Deliver 21; sent = 22; failed = false; loaded = None }
    ∷ record { event = 4; party = sender.Node (record { region = 3; replica = 0 }); handed = handed.Deliver 22; sent = 22; failed = false; loaded = None }
    ∷ []
