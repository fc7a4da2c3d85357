mod Requests
mod Roles
