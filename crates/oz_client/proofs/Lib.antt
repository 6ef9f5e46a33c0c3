mod Lists
mod Results
mod Placing
mod Asked
mod Over
mod Telling
mod Going
mod Stories
